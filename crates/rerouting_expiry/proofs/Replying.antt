-- The reply to the expiry of a destination's or a route's timer, from what the code finds one after the other.
-- Assumes nothing.
use mathlib.Core.Path.{◌≡◌, sym, ap, ◌∙◌}
use mathlib.Core.Bool.{Bool, true, false, cond, not, ◌&&◌, ◌||◌, or-true}
use mathlib.Core.List.{List, [], ◌∷◌}
use Prim.Native.Nat.{ℕ, ◌<◌, ◌≤◌}
use lib.Dec.{ltb, leb}
use borrow.Author.Tests.{lt-ltb, le-ltb, le-leb, lt-leb}
use borrow.Table.Steps.{cases}
use Rattle.plan.specs.declared.data.Plan.{Plan}
use Rattle.plan.specs.Find.{place_of, is_found}
use Rattle.area_flags.specs.Flags.{flag_at}
use Rattle.replies.specs.Reply.{row, first}
use Rattle.lookup.specs.Lookup.{is_set, rank_by}
use Rattle.rerouting_expiry.specs.Expiry.{is_destination, reply_of, reply_t10}

-- both tables: 1 out of range, 2 where it isn't configured, 5 where it doesn't run
module _ (outside there running : Bool) where
  abbrev table : ℕ
  table = first (row 1 outside ∷ row 2 (not there) ∷ row 5 (not running) ∷ [])

  out_of_range : outside ≡ true → 1 ≡ table
  unfolding first
  out_of_range e = simp e

  not_there : outside ≡ false → there ≡ false → 2 ≡ table
  unfolding first
  not_there e n = simp (e, n)

  by_running : outside ≡ false → there ≡ true → (said : Bool) → running ≡ said → cond said 0 5 ≡ table
  unfolding first
  by_running e n said r = cases said (λ s. simp (e, n, r, s)) (λ s. simp (e, n, r, s))

-- whether a destination is configured, with a node and without
pub destination_by : (plan : Plan) (x : ℕ) (node : Bool) → plan.given ≡ node → (node && is_found plan x) ≡ is_destination plan x
unfolding is_destination
destination_by plan x node e = ap (λ (t : Bool). t && is_found plan x) (sym e)

-- the timers of a destination
module _ (plan : Plan) (marks : List ℕ) (x timer : ℕ) where
  pub no_code : 16384 ≤ x → 1 ≡ reply_of plan marks x timer
  unfolding reply_of
  no_code h = out_of_range (leb 16384 x) (is_destination plan x) (flag_at marks (place_of plan x) timer) (le-leb 16384 x h)

  module _ (h : x < 16384) (there : Bool) (is : there ≡ is_destination plan x) where
    pub no_destination : there ≡ false → 2 ≡ reply_of plan marks x timer
    unfolding reply_of
    no_destination e =
        not_there (leb 16384 x) (is_destination plan x) (flag_at marks (place_of plan x) timer) (lt-leb 16384 x h) (sym is ∙ e)

    -- 0 where it runs
    pub by_flag : there ≡ true → (place : ℕ) → place ≡ place_of plan x → (running : Bool) → running ≡ flag_at marks place timer
        → (said : Bool) → running ≡ said → cond said 0 5 ≡ reply_of plan marks x timer
    unfolding reply_of
    by_flag e place at running reads said s =
        by_running (leb 16384 x) (is_destination plan x) (flag_at marks (place_of plan x) timer) (lt-leb 16384 x h) (sym is ∙ e) said
        (ap (λ (p : ℕ). flag_at marks p timer) (sym at) ∙ sym reads ∙ s)

-- T10 of a route
module _ (plan : Plan) (marks : List ℕ) (x set : ℕ) where
  abbrev outside : Bool
  outside = leb 16384 x || leb 8 set

  abbrev both_there : Bool
  both_there = is_destination plan x && is_set plan set

  -- whether the mark of the route with a rank stands
  abbrev standing : ℕ → ℕ → Bool
  standing place rank = ltb rank 4 && flag_at marks place rank

  abbrev stands : Bool
  stands = standing (place_of plan x) (rank_by plan (place_of plan x) set)

  pub t10_no_code : 16384 ≤ x → 1 ≡ reply_t10 plan marks x set
  unfolding reply_t10
  t10_no_code h = out_of_range outside both_there stands (ap (λ (t : Bool). t || leb 8 set) (le-leb 16384 x h))

  pub t10_past_the_last_set : 8 ≤ set → 1 ≡ reply_t10 plan marks x set
  unfolding reply_t10
  t10_past_the_last_set h =
      out_of_range outside both_there stands (ap (λ (t : Bool). leb 16384 x || t) (le-leb 8 set h) ∙ or-true (leb 16384 x))

  module _ (h : x < 16384) (k : set < 8) (there : Bool) (is : there ≡ is_destination plan x) where
    within : outside ≡ false
    within = ap (λ (t : Bool). t || leb 8 set) (lt-leb 16384 x h) ∙ lt-leb 8 set k

    pub t10_no_destination : there ≡ false → 2 ≡ reply_t10 plan marks x set
    unfolding reply_t10
    t10_no_destination e = not_there outside both_there stands within (ap (λ (t : Bool). t && is_set plan set) (sym is ∙ e))

    module _ (yes : there ≡ true) (given : Bool) (is_given : given ≡ is_set plan set) where
      both_by : (said : Bool) → given ≡ said → both_there ≡ said
      both_by said e = ap (λ (t : Bool). t && is_set plan set) (sym is ∙ yes) ∙ sym is_given ∙ e

      pub t10_no_set : given ≡ false → 2 ≡ reply_t10 plan marks x set
      unfolding reply_t10
      t10_no_set e = not_there outside both_there stands within (both_by false e)

      module _ (all : given ≡ true) (place : ℕ) (at : place ≡ place_of plan x) (rank : ℕ)
          (ranked : rank ≡ rank_by plan place set) where
        by_mark : (said : Bool) → standing place rank ≡ said → cond said 0 5 ≡ reply_t10 plan marks x set
        unfolding reply_t10
        by_mark said e =
            by_running outside both_there stands within (both_by true all) said
            (ap (λ (p : ℕ). standing p (rank_by plan p set)) (sym at) ∙ ap (λ (r : ℕ). standing place r) (sym ranked) ∙ e)

        pub t10_no_route : 4 ≤ rank → 5 ≡ reply_t10 plan marks x set
        t10_no_route far = by_mark false (ap (λ (t : Bool). t && flag_at marks place rank) (le-ltb rank 4 far))

        -- 0 where the mark stands
        pub t10_by_mark : rank < 4 → (mark : Bool) → mark ≡ flag_at marks place rank → (said : Bool) → mark ≡ said
            → cond said 0 5 ≡ reply_t10 plan marks x set
        t10_by_mark near mark reads said s =
            by_mark said (ap (λ (t : Bool). t && flag_at marks place rank) (lt-ltb rank 4 near) ∙ sym reads ∙ s)
