-- The node of the examples D to J: two links of one set, link 0 changing and link 1 open. The messages of link 0's queue, and their
-- places in the store, go by their names, and so do their arrival numbers.
use Rattle.std.specs.Prelude.{ℕ, false, List, [], ◌∷◌, length, replicate}
use Rattle.std.proofs.lemmas.List.Edits.{sets}
use Rattle.constants.specs.Constants.{state_changing}
use Rattle.area_links.specs.declared.LinkRecord.{LinkRecord}
use Rattle.area_links.specs.LinkRecords.{record_at, with_record}
use Rattle.area_slots.specs.SlotRows.{with_slot}
use Rattle.area_spans.specs.SpanRows.{with_span}
use Rattle.queue_rings.specs.Ring.{queue}
use Rattle.queue_retiring.specs.Leave.{State, state}
use Rattle.changeover_cuts.specs.Cuts.{cut_at}
use Rattle.changeover_ending.specs.End.{ended}
use Rattle.promise_examples.specs.Set.{in_states, one_set}

-- a changing link: its last acknowledged number, and how many messages are sent
abbrev pub changing : ℕ → ℕ → LinkRecord
changing acknowledged sent =
    record {
      state = state_changing;
      acknowledged = acknowledged;
      received = 127;
      sent = sent;
      timer = 2;
      t3 = false;
      code = 0;
    }

-- the records of both links
abbrev pub links_with : ℕ → ℕ → List ℕ
links_with acknowledged sent = with_record (in_states (3 ∷ 2 ∷ [])) 0 (changing acknowledged sent)

-- the rows of some messages: users' messages to point 1
abbrev pub rows_of : List ℕ → List ℕ
rows_of [] = replicate 2048 0
rows_of (message ∷ rest) =
    with_slot (rows_of rest) message (record { arrival = message; heading = 0; point = 1; sls = 0; field = 5 })

-- the queues with some messages on link 0, and an empty report area
abbrev pub holding : List ℕ → State
holding messages =
    state (with_span (replicate 70 0) 0 (record { head = 0; count = length messages })) (sets (replicate 8960 0) 0 messages)
    (replicate 1024 0) 0

-- the queues and reports once link 0 has ended its changeover with the number F (R189, R190, R191, R192, R193, R194, R195)
abbrev pub ended_at : ℕ → ℕ → ℕ → List ℕ → State
ended_at acknowledged sent f messages =
    let links = links_with acknowledged sent in
    ended (one_set (0 ∷ 1 ∷ [])) links [] (rows_of messages) 0 (cut_at (record_at links 0) f) (holding messages)

-- what became of the messages: those whose places are given up; how many reports there are; and those that moved to link 1
pub record Fate : Type 0 where
  pub gone : List ℕ
  pub reports : ℕ
  pub moved : List ℕ

abbrev pub fate_of : State → Fate
fate_of now =
    record {
      gone = queue now.queues.spans now.queues.rings 33;
      reports = now.log.count;
      moved = queue now.queues.spans now.queues.rings 1;
    }

-- some messages are retired and the rest moves, and none is dropped
infix 25 retires◌moves◌
abbrev pub retires◌moves◌ : List ℕ → List ℕ → Fate
retires retired moves moved = record { gone = retired; reports = 0; moved = moved }
