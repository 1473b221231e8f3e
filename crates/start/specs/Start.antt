-- "An accepted text makes a fresh node, all links out and arrival numbers from 0." (R176, R177) "A refused one makes none, and a node that
-- already runs isn't touched." (R179, R180)
use Rattle.std.specs.Prelude.{ℕ, List, set}
use Rattle.queue_store.specs.Fresh.{emptied}
use Rattle.queue_store.specs.Fresh as Fresh
use Rattle.plan_configuration.specs.declared.configure.Configured.{Configured}
use Rattle.start.specs.declared.Started.{Started}

-- every link is out, and no timer runs
abbrev pub fresh_links : List ℕ → List ℕ
fresh_links links = emptied links 256

-- no mark stands, and no timer of a destination runs
abbrev pub fresh_marks : List ℕ → List ℕ
fresh_marks marks = emptied marks 512

-- every slot is free
abbrev pub fresh_spans : List ℕ → List ℕ
fresh_spans spans = Fresh.fresh_spans spans

abbrev pub fresh_rings : List ℕ → List ℕ
fresh_rings rings = Fresh.fresh_rings rings

-- the next arrival number is 0
abbrev pub fresh_arrivals : List ℕ → List ℕ
fresh_arrivals arrivals = set arrivals 0 0

-- what a configuration answers: no fault, or "the first faulty line" (R163) and "the first of its faults" (R164)
abbrev pub started : Configured → Started
started made = record { line = made.line; fault = made.fault }
