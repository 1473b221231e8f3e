-- What a TFP or TFA leaves, from what the code does one after the other: nothing, or the flags changed and the access that changed
-- told. Assumes nothing.
use mathlib.Core.Path.{◌≡◌, sym, ap, ◌∙◌}
use mathlib.Core.Bool.{Bool, true, false, cond}
use mathlib.Core.List.{List}
use Prim.Native.Nat.{ℕ}
use lib.ListN.{get_or}
use Rattle.plan.specs.declared.data.Plan.{Plan}
use Rattle.replies.specs.declared.Answer.{Answer}
use Rattle.replies.specs.Reply.{plain, done}
use Rattle.replies.specs.Areas.{Areas, areas, Outcome, outcome, Leaves}
use Rattle.replies.proofs.Leaving.{leaves}
use Rattle.reports.specs.Report.{Log, log}
use Rattle.route_access.specs.Change.{accesses_of, is_accessible, changes_told}
use Rattle.route_access.proofs.Filled.{says_each}
use Rattle.route_access.proofs.Same.{told_same}
use Rattle.rerouting_marking.specs.Mark.{counts, marks_after}
use Rattle.rerouting.specs.Transfer.{access_told, transferred}

module _ (plan : Plan) (point x : ℕ) (prohibits : Bool) (a : Areas) (effect : Bool)
    (counted : effect ≡ counts plan a.marks point x prohibits) where
  abbrev marks_then : List ℕ
  marks_then = marks_after plan a.links a.marks point x prohibits

  -- the flags and the reports that it leaves where it counts
  abbrev with : List ℕ → Log → Outcome
  with m told = outcome (done told.count) (areas a.links m a.spans a.rings a.rows a.arrivals told.area)

  transfer_if : (said : Bool) → effect ≡ said
      → cond said (with marks_then (access_told plan a marks_then)) (outcome (plain 11) a) ≡ transferred plan point x prohibits a
  unfolding transferred
  transfer_if said e =
      ap (λ (t : Bool). cond t (with marks_then (access_told plan a marks_then)) (outcome (plain 11) a)) (sym e ∙ counted)

  -- of no effect
  pub no_effect : effect ≡ false → (answer : Answer) → answer ≡ plain 11
      → Leaves (transferred plan point x prohibits a) answer a
  no_effect e answer r =
      leaves (transferred plan point x prohibits a) answer a (ap (λ (n : Answer). outcome n a) r ∙ transfer_if false e)

  -- the flags change, and the access that changed is told against what was noted before
  module _ (e : effect ≡ true) (table : List Bool) (noted : table ≡ accesses_of plan a.links a.marks) (marks : List ℕ)
      (changed : marks ≡ marks_then) where
    abbrev told_now : Log
    told_now = changes_told plan (λ (d : ℕ). get_or table d false) (is_accessible plan a.links marks) (log a.reports 0)

    told_is : told_now ≡ access_told plan a marks_then
    unfolding access_told
    told_is =
        told_same plan (λ (d : ℕ). get_or table d false) (is_accessible plan a.links a.marks)
        (is_accessible plan a.links marks) (is_accessible plan a.links marks_then) (log a.reports 0) (says_each plan a.links a.marks table noted)
        (λ d h. ap (λ (m : List ℕ). is_accessible plan a.links m d) changed)

    pub takes_effect : (count : ℕ) (reports : List ℕ) → (count ≡ told_now.count) × (reports ≡ told_now.area) → (answer : Answer)
        → answer ≡ done count
        → Leaves (transferred plan point x prohibits a) answer
        (areas a.links marks a.spans a.rings a.rows a.arrivals reports)
    takes_effect count reports told answer r =
        let all : log reports count ≡ told_now = simp (told.0, told.1) in
        leaves (transferred plan point x prohibits a) answer
        (areas a.links marks a.spans a.rings a.rows a.arrivals reports)
        (ap (λ (n : Answer). outcome n (areas a.links marks a.spans a.rings a.rows a.arrivals reports)) r
        ∙ ap (λ (t : Log). with marks t) (all ∙ told_is)
        ∙ ap (λ (m : List ℕ). with m (access_told plan a marks_then)) changed
        ∙ transfer_if true e)
