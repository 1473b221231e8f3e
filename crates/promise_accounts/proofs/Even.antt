-- What is held, what is gone and what is new balance, from one memory to the next.
-- Assumes nothing.
use mathlib.Core.Path.{◌≡◌}
use mathlib.Core.Bool.{Bool}
use mathlib.Core.List.{List, []}
use Prim.Native.Nat.{ℕ, ◌+◌}
use native.Mathlib.Omega.{arith}
use lib.ListN.{length}
use Rattle.queue_store.specs.Sound.{tally, Kinds}
use Rattle.replies.specs.Reply.{plain, done, if_done}
use Rattle.replies.specs.Areas.{Areas, Outcome, outcome, judged, refused, with_links, with_marks}
use Rattle.numbers.specs.Numbers.{is_taken, taken}
use Rattle.numbers.specs.Taken.{with_taken, taken_by}
use Rattle.queue_heads.specs.Head.{both}
use Rattle.queue_joining.specs.Queue.{next_of}
use Rattle.promise_runs.proofs.Outcomes.{by_test, if_done_lem, if_both_done}
use Rattle.promise_ledger.specs.Held.{held_of, given_of}
use Rattle.promise_ledger.specs.Reported.{reports_in, drops_of}

module _ (test : ℕ → Bool) where
  -- how many numbers that pass the test areas hold, and how many are given in them
  abbrev pub held_in : Areas → ℕ
  held_in a = held_of test a.rows (both a.spans a.rings)

  abbrev pub given_in : Areas → ℕ
  given_in a = given_of test (next_of a.arrivals)

  abbrev pub KindsIn : Areas → Type 0
  KindsIn a = Kinds a.spans a.rings

  -- from one to the next so many have gone, and every new one is held
  pub record Even (a b : Areas) (gone : ℕ) : Type 0 where
    pub one : length b.arrivals ≡ 1
    pub even : held_in b + gone + given_in a ≡ held_in a + given_in b
    -- and the free slots stay apart by kind
    pub apart : KindsIn a → KindsIn b

  -- nothing happens
  pub even_none : (a : Areas) → length a.arrivals ≡ 1 → Even a a 0
  even_none a long = record { one = long; even = omega arith; apart = λ kinds. kinds }

  -- one after the other
  pub even_on : (a b c : Areas) (first next : ℕ) → Even a b first → Even b c next → Even a c (first + next)
  even_on a b c first next earlier later =
      record { one = later.one; even = omega (arith, earlier.even, later.even); apart = λ kinds. later.apart (earlier.apart kinds) }

  -- other links, or other flags, hold no messages
  pub even_links : (a b : Areas) (gone : ℕ) → Even a b gone → (links : List ℕ) → Even a (with_links b links) gone
  even_links a b gone even links = record { one = even.one; even = even.even; apart = even.apart }

  pub even_marks : (a b : Areas) (gone : ℕ) → Even a b gone → (marks : List ℕ) → Even a (with_marks b marks) gone
  even_marks a b gone even marks = record { one = even.one; even = even.even; apart = even.apart }

  -- an outcome: some have gone, and some are reported dropped
  abbrev pub told_in : Outcome → ℕ
  told_in o = tally test (drops_of (reports_in o.after.reports o.answer.reports))

  abbrev pub EvenBy : Areas → Outcome → List ℕ → Type 0
  EvenBy a o gone = Even a o.after (tally test gone + told_in o)

  -- with no reports, and nothing gone
  pub untold : (a : Areas) (reply : ℕ) (b : Areas) → Even a b 0 → EvenBy a (outcome (plain reply) b) []
  unfolding reports_in drops_of tally
  untold a reply b even = even

  -- with reports that tell of no drop
  pub undropped : (a b : Areas) (reports : ℕ) → Even a b 0 → tally test (drops_of (reports_in b.reports reports)) ≡ 0
      → EvenBy a (outcome (done reports) b) []
  unfolding tally
  undropped a b reports even none = record { one = even.one; even = omega (arith, even.even, none); apart = even.apart }

  -- a message that is taken, or not
  pub taken_even : (a : Areas) (arriving fsn : ℕ) (o : Outcome) (gone : List ℕ) → EvenBy a o gone → EvenBy a (taken_by arriving fsn o) gone
  taken_even a arriving fsn o gone even =
      by_test (λ (b : Areas). EvenBy a (outcome o.answer b) gone) (is_taken o.answer.reply) (with_taken arriving fsn o.after) o.after
      (λ e. even_links a o.after (tally test gone + told_in o) even (taken o.after.links arriving fsn))
      (λ e. even)

  -- a refused event
  pub refused_even : (a : Areas) → length a.arrivals ≡ 1 → (reply : ℕ) → EvenBy a (refused reply a) []
  refused_even a long reply = untold a reply a (even_none a long)

  -- done, or refused
  pub judged_even : (a : Areas) → length a.arrivals ≡ 1 → (reply : ℕ) (done : Outcome) (gone : List ℕ)
      → (reply ≡ 0 → EvenBy a done gone)
      → EvenBy a (judged reply done a) (if_done reply gone [])
  judged_even a long reply done gone does =
      if_both_done (EvenBy a) reply done (refused reply a) gone [] does (refused_even a long reply)

  -- where nothing is gone either way
  pub unjudged_even : (a : Areas) → length a.arrivals ≡ 1 → (reply : ℕ) (done : Outcome) → (reply ≡ 0 → EvenBy a done [])
      → EvenBy a (judged reply done a) []
  unjudged_even a long reply done does =
      if_done_lem (λ (o : Outcome). EvenBy a o []) reply done (refused reply a) does (refused_even a long reply)
