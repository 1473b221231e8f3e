-- "It opens when no CBD is unanswered and T3 isn't running. The last answer stops T4; its expiry counts as every answer." (R98, R99, R100)
use Rattle.std.specs.Prelude.{ℕ, Bool, false, cond, not, ◌&&◌, eqb, ltb}
use Rattle.constants.specs.Constants.{state_waiting, state_open}
use Rattle.area_links.specs.declared.LinkRecord.{LinkRecord}

-- a waiting link opens when nothing is left to wait for
abbrev pub waits : LinkRecord → Bool → ℕ → LinkRecord
waits known t3 code =
    record {
      state = cond (eqb known.state state_waiting && (not t3 && eqb code 0)) state_open known.state;
      acknowledged = known.acknowledged;
      received = known.received;
      sent = known.sent;
      timer = known.timer;
      t3 = t3;
      code = code;
    }

-- whether T3, or T4, runs: T4 exactly while a CBD is unanswered (R95)
abbrev pub runs : LinkRecord → ℕ → Bool
runs known timer = cond (eqb timer 3) known.t3 (ltb 0 known.code)

-- the record without T3, or without T4
unfoldable pub stopped : LinkRecord → ℕ → LinkRecord
stopped known timer = cond (eqb timer 3) (waits known false known.code) (waits known known.t3 0)
