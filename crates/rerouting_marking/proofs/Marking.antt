-- TFP and TFA from what the code finds one after the other: the rank of the route, whether the message counts, whether it diverts, and
-- the flags after it. Assumes nothing.
use mathlib.Core.Path.{◌≡◌, refl, sym, ap, ◌∙◌}
use mathlib.Core.Bool.{Bool, true, false, cond, not, ◌&&◌}
use mathlib.Core.List.{List}
use Prim.Native.Nat.{ℕ, ◌≤◌, ◌<◌}
use lib.Dec.{eqb, ltb}
use borrow.Author.Tests.{lt-ltb, le-ltb, eq-eqb, ne_eqb}
use Rattle.plan.specs.declared.data.Plan.{Plan}
use Rattle.plan.specs.Find.{place_of, is_found}
use Rattle.area_flags.specs.Flags.{flag_at, with_flag}
use Rattle.lookup.specs.Lookup.{set_to, rank_by}
use Rattle.route_access.specs.Change.{is_accessible}
use Rattle.route_current.specs.Current.{current_set}
use Rattle.rerouting_marking.specs.Mark.{rank_for, differs, counts, marked, diverts, marks_after}

-- the rank of the route
module _ (plan : Plan) (point x set : ℕ) (is : set ≡ set_to plan point) where
  rank_if : (inside found : Bool) → ltb set 8 ≡ inside → is_found plan x ≡ found
      → cond (inside && found) (rank_by plan (place_of plan x) set) 4 ≡ rank_for plan point x
  unfolding rank_for
  rank_if inside found i f =
      ap (λ (t : Bool). cond (t && found) (rank_by plan (place_of plan x) set) 4) (sym i)
      ∙ ap (λ (t : Bool). cond (ltb set 8 && t) (rank_by plan (place_of plan x) set) 4) (sym f)
      ∙ ap (λ (s : ℕ). cond (ltb s 8 && is_found plan x) (rank_by plan (place_of plan x) s) 4) is

  pub no_set : 8 ≤ set → 4 ≡ rank_for plan point x
  no_set h = rank_if false (is_found plan x) (le-ltb set 8 h) refl

  pub not_found : set < 8 → (found : Bool) → found ≡ is_found plan x → found ≡ false → 4 ≡ rank_for plan point x
  not_found h found tells e = rank_if true false (lt-ltb set 8 h) (sym tells ∙ e)

  pub rank_found : set < 8 → (found : Bool) → found ≡ is_found plan x → found ≡ true → (place : ℕ) → place ≡ place_of plan x
      → rank_by plan place set ≡ rank_for plan point x
  rank_found h found tells e place at =
      ap (λ (p : ℕ). rank_by plan p set) at ∙ rank_if true true (lt-ltb set 8 h) (sym tells ∙ e)

-- whether the message counts
module _ (plan : Plan) (marks : List ℕ) (point x : ℕ) (prohibits : Bool) where
  -- the mark of the route with a rank doesn't stand yet as it asks
  abbrev asks : ℕ → ℕ → Bool
  asks place rank = ltb rank 4 && differs (flag_at marks place rank) prohibits

  counts_if : (itself us : Bool) → eqb x point ≡ itself → eqb x plan.code ≡ us
      → (not itself && (not us && asks (place_of plan x) (rank_for plan point x))) ≡ counts plan marks point x prohibits
  unfolding counts
  counts_if itself us i u =
      ap (λ (t : Bool). not t && (not us && asks (place_of plan x) (rank_for plan point x))) (sym i)
      ∙ ap (λ (t : Bool). not (eqb x point) && (not t && asks (place_of plan x) (rank_for plan point x))) (sym u)

  pub about_itself : x ≡ point → false ≡ counts plan marks point x prohibits
  about_itself e = counts_if true (eqb x plan.code) (eq-eqb x point e) refl

  module _ (other : x ≡ point → ⊥) where
    pub about_us : x ≡ plan.code → false ≡ counts plan marks point x prohibits
    about_us e = counts_if false true (ne_eqb x point other) (eq-eqb x plan.code e)

    module _ (not-us : x ≡ plan.code → ⊥) (rank : ℕ) (is : rank ≡ rank_for plan point x) where
      by_rank : (place : ℕ) → place ≡ place_of plan x → asks place rank ≡ counts plan marks point x prohibits
      by_rank place at =
          ap (λ (p : ℕ). asks p rank) at
          ∙ ap (λ (r : ℕ). asks (place_of plan x) r) is
          ∙ counts_if false false (ne_eqb x point other) (ne_eqb x plan.code not-us)

      pub no_route : 4 ≤ rank → false ≡ counts plan marks point x prohibits
      no_route far =
          ap (λ (t : Bool). t && differs (flag_at marks (place_of plan x) rank) prohibits) (sym (le-ltb rank 4 far))
          ∙ by_rank (place_of plan x) refl

      pub by_mark : rank < 4 → (place : ℕ) → place ≡ place_of plan x → (stands : Bool) → stands ≡ flag_at marks place rank
          → (said : Bool) → prohibits ≡ said → cond said (not stands) stands ≡ counts plan marks point x prohibits
      by_mark near place at stands reads said e =
          ap (λ (t : Bool). cond t (not stands) stands) (sym e)
          ∙ ap (λ (t : Bool). differs t prohibits) reads
          ∙ ap (λ (t : Bool). t && differs (flag_at marks place rank) prohibits) (sym (lt-ltb rank 4 near))
          ∙ by_rank place at

-- whether X uses another set than before
module _ (plan : Plan) (links before after : List ℕ) (x : ℕ) (prohibits : Bool) where
  abbrev another : ℕ → Bool
  another place = not (eqb (current_set plan links before place) (current_set plan links after place))

  diverts_if : (tfp : Bool) → prohibits ≡ tfp → (place : ℕ) → place ≡ place_of plan x
      → (not tfp && (is_accessible plan links before place && another place)) ≡ diverts plan links before after x prohibits
  unfolding diverts
  diverts_if tfp e place at =
      ap (λ (t : Bool). not t && (is_accessible plan links before place && another place)) (sym e)
      ∙ ap (λ (p : ℕ). not prohibits && (is_accessible plan links before p && another p)) at

  pub of_a_tfp : prohibits ≡ true → false ≡ diverts plan links before after x prohibits
  of_a_tfp e = diverts_if true e (place_of plan x) refl

  module _ (tfa : prohibits ≡ false) (place : ℕ) (at : place ≡ place_of plan x) (access : Bool)
      (tells : access ≡ is_accessible plan links before place) where
    pub no_access : access ≡ false → false ≡ diverts plan links before after x prohibits
    no_access e = ap (λ (t : Bool). t && another place) (sym (sym tells ∙ e)) ∙ diverts_if false tfa place at

    pub by_sets : access ≡ true → (was now : ℕ) → was ≡ current_set plan links before place → now ≡ current_set plan links after place
        → not (eqb was now) ≡ diverts plan links before after x prohibits
    by_sets e was now w n =
        ap (λ (s : ℕ). not (eqb s now)) w
        ∙ ap (λ (s : ℕ). not (eqb (current_set plan links before place) s)) n
        ∙ ap (λ (t : Bool). t && another place) (sym (sym tells ∙ e))
        ∙ diverts_if false tfa place at

-- the flags after it
module _ (plan : Plan) (links marks : List ℕ) (point x : ℕ) (prohibits : Bool) (place : ℕ) (at : place ≡ place_of plan x) (rank : ℕ)
    (is : rank ≡ rank_for plan point x) (after : List ℕ) (stored : after ≡ with_flag marks place rank prohibits) where
  mark_set : after ≡ marked plan marks point x prohibits
  unfolding marked
  mark_set =
      stored
      ∙ ap (λ (p : ℕ). with_flag marks p rank prohibits) at
      ∙ ap (λ (r : ℕ). with_flag marks (place_of plan x) r prohibits) is

  -- T6 starts where it diverts
  pub marks_if : (turns : Bool) → turns ≡ diverts plan links marks after x prohibits → (said : Bool) → turns ≡ said
      → cond said (with_flag after place 4 true) after ≡ marks_after plan links marks point x prohibits
  unfolding marks_after
  marks_if turns tells said e =
      ap (λ (t : Bool). cond t (with_flag after place 4 true) after) (sym e ∙ tells)
      ∙ ap (λ (p : ℕ). cond (diverts plan links marks after x prohibits) (with_flag after p 4 true) after) at
      ∙ ap (λ (m : List ℕ). cond (diverts plan links marks m x prohibits) (with_flag m (place_of plan x) 4 true) m) mark_set
