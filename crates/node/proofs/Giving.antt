-- A call that answers, and leaves, what an event says gives that event's result. Assumes nothing.
use mathlib.Core.Path.{◌≡◌, refl, sym, ap, subst}
use mathlib.Core.List.{List}
use Prim.Native.Nat.{ℕ}
use Rattle.plan.specs.declared.data.Plan.{Plan}
use Rattle.replies.specs.declared.Answer.{Answer}
use Rattle.replies.specs.Areas.{Areas, Outcome, Leaves}
use Rattle.node.specs.declared.call.Event.{Event}
use Rattle.node.specs.Memory.{Memory, memory, Result, result, of_areas, Gives}
use Rattle.node.specs.Call.{call_of}

pub gives : (expected : Result) (r : Answer) (a : Areas) (octets out : List ℕ) → result r a octets out ≡ expected
    → Gives expected r (memory a octets out)
gives expected r a octets out e =
    record {
      answers = ap (λ (x : Result). x.answer) e;
      in_links = ap (λ (x : Result). x.after.areas.links) e;
      in_marks = ap (λ (x : Result). x.after.areas.marks) e;
      in_spans = ap (λ (x : Result). x.after.areas.spans) e;
      in_rings = ap (λ (x : Result). x.after.areas.rings) e;
      in_rows = ap (λ (x : Result). x.after.areas.rows) e;
      in_arrivals = ap (λ (x : Result). x.after.areas.arrivals) e;
      in_reports = ap (λ (x : Result). x.after.areas.reports) e;
      in_octets = ap (λ (x : Result). x.after.octets) e;
      in_out = ap (λ (x : Result). x.after.out) e;
    }

-- areas that an outcome leaves, beside the octets and the output
pub with_areas : (o : Outcome) (r : Answer) (a : Areas) → Leaves o r a → (octets octets' out : List ℕ) → octets' ≡ octets
    → Gives (result o.answer o.after octets out) r (memory a octets' out)
with_areas o r a left octets octets' out written =
    record {
      answers = left.answers;
      in_links = left.in_links;
      in_marks = left.in_marks;
      in_spans = left.in_spans;
      in_rings = left.in_rings;
      in_rows = left.in_rows;
      in_arrivals = left.in_arrivals;
      in_reports = left.in_reports;
      in_octets = written;
      in_out = refl;
    }

-- an event that changes areas alone
pub areas_alone : (o : Outcome) (r : Answer) (a : Areas) (m : Memory) → Leaves o r a → Gives (of_areas o m) r (memory a m.octets m.out)
areas_alone o r a m left = with_areas o r a left m.octets m.octets m.out refl

-- the event was told for one of its kinds
pub told_as : (plan : Plan) (message : List ℕ) (m : Memory) (event kind : Event) → event ≡ kind → (r : Answer) (after : Memory)
    → Gives (call_of plan kind message m) r after → Gives (call_of plan event message m) r after
told_as plan message m event kind told r after given =
    subst (λ (e : Event). Gives (call_of plan e message m) r after) (sym told) given
