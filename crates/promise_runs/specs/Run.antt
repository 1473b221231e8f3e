-- A run: the calls of a node, one after the other, each with the areas that are lent to it.
use Rattle.std.specs.Prelude.{ℕ, ◌≡◌, List, [], ◌∷◌, length}
use Rattle.plan.specs.declared.data.Plan.{Plan}
use Rattle.replies.specs.Areas.{areas}
use Rattle.start.specs.Start.{fresh_links, fresh_marks, fresh_spans, fresh_rings, fresh_arrivals}
use Rattle.node.specs.declared.call.Event.{Event}
use Rattle.node.specs.Memory.{Memory, memory}
use Rattle.node.specs.Call.{call_of}

-- a call: its event, the message received or handed over, and the report area and the output as they are lent
pub record Call : Type 0 where
  pub event : Event
  pub message : List ℕ
  pub reports : List ℕ
  pub out : List ℕ

-- the memory with the areas that a call is lent
abbrev pub lent : Call → Memory → Memory
lent call m =
    let a = m.areas in
    memory (areas a.links a.marks a.spans a.rings a.rows a.arrivals call.reports) m.octets call.out

-- the memory after a call
unfoldable pub called : Plan → Call → Memory → Memory
called plan call m = (call_of plan call.event call.message (lent call m)).after

-- and after a run, the first call first
unfoldable pub ran : Plan → List Call → Memory → Memory
ran plan [] m = m
ran plan (call ∷ later) m = ran plan later (called plan call m)

-- the areas that a node is started in have their lengths, whatever they hold
pub record Whole (m : Memory) : Type 0 where
  pub links_long : length m.areas.links ≡ 256
  pub spans_long : length m.areas.spans ≡ 70
  pub rings_long : length m.areas.rings ≡ 8960
  pub rows_long : length m.areas.rows ≡ 2048
  pub octets_long : length m.octets ≡ 52416

-- "An accepted text makes a fresh node, all links out and arrival numbers from 0" (R176, R177, R178): the memory of one, whatever the areas held
abbrev pub fresh : Memory → Memory
fresh m =
    let a = m.areas in
    memory
    (areas (fresh_links a.links) (fresh_marks a.marks) (fresh_spans a.spans) (fresh_rings a.rings) a.rows
    (fresh_arrivals a.arrivals)
    a.reports)
    m.octets
    m.out
