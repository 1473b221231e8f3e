-- A message that the node makes is held: nothing else comes or goes.
-- Assumes nothing.
use mathlib.Core.Path.{◌≡◌, refl, ◌∙◌}
use mathlib.Core.Bool.{Bool}
use mathlib.Core.List.{List}
use Prim.Native.Nat.{ℕ, ◌≤◌, ◌<◌}
use native.Mathlib.Omega.{arith}
use lib.ListN.{length, take, length-set}
use borrow.Author.Tests.{ltb-true}
use Rattle.plan.specs.declared.data.Plan.{Plan}
use Rattle.queue_rings.specs.Ring.{count_of}
use Rattle.replies.specs.Areas.{Areas}
use Rattle.route_choice.specs.Which.{none}
use Rattle.route_ways.specs.Way.{for_management}
use Rattle.queue_heads.specs.Head.{Queues, both}
use Rattle.queue_joining.specs.Queue.{management_reply, management_queues, rows_with_management, management_arrivals, counted}
use Rattle.wire_messages.specs.Management.{heading_of, field_of}
use Rattle.management_making.specs.declared.Draft.{Draft}
use Rattle.management_making.specs.Make.{Held, path_of, has_path, made, held_in, with_held, with_made}
use Rattle.promise_runs.proofs.Carrying.{way_carries}
use Rattle.promise_runs.proofs.Growing.{Goes}
use Rattle.promise_runs.proofs.Queued.{management_kept}
use Rattle.promise_runs.proofs.Outcomes.{RegularIn, by_test, if_done_lem}
use Rattle.promise_ledger.proofs.FreeKinds.{kinds_management}
use Rattle.promise_ledger.proofs.Joined.{management_even}
use Rattle.promise_ledger.proofs.Behind.{management_first}
use Rattle.promise_accounts.specs.Gone.{queue_of}
use Rattle.promise_accounts.proofs.Even.{Even, even_none}

-- the number used up is still one number
pub management_one : (spans arrivals : List ℕ) → length arrivals ≡ 1 → length (management_arrivals spans arrivals) ≡ 1
unfolding management_arrivals
management_one spans arrivals long =
    if_done_lem (λ (l : List ℕ). length l ≡ 1) (management_reply spans arrivals) (counted arrivals) arrivals
    (λ e. length-set arrivals 0 _ ∙ long)
    long

module _ (a : Areas) (octets : List ℕ) (regular : RegularIn a octets) where
  abbrev queues : Queues
  queues = both a.spans a.rings

  -- with a management message at the end of a queue
  abbrev pub joined : ℕ → ℕ → ℕ → ℕ → ℕ → Held
  joined ring heading point slc field =
      record {
        queues = management_queues queues a.arrivals ring;
        rows = rows_with_management queues a.arrivals a.rows heading point slc field;
        arrivals = management_arrivals a.spans a.arrivals;
      }

  module _ (test : ℕ → Bool) (long : length a.arrivals ≡ 1) where
    pub joined_even : (ring : ℕ) → ring < 33 → (heading point slc field : ℕ)
        → Even test a (with_held a (joined ring heading point slc field)) 0
    joined_even ring h heading point slc field =
        record {
          one = management_one a.spans a.arrivals long;
          even =
              omega (
                arith,
                management_even test a.rows octets queues regular.store a.arrivals long ring h heading point slc field,
              );
          apart = λ kinds. kinds_management a.rows octets queues regular.store kinds a.arrivals ring h;
        }

    module _ (plan : Plan) (draft : Draft) where
      abbrev path : ℕ
      path = path_of plan a.links a.marks draft

      pub made_even : Even test a (with_made plan draft a) 0
      unfolding made
      made_even =
          by_test (λ (now : Held). Even test a (with_held a now) 0) (has_path plan a.links a.marks draft)
          (joined path (heading_of draft.message) draft.point draft.slc (field_of draft.message))
          (held_in a)
          (λ e.
          let h = ltb-true path none e in
          joined_even path (omega arith) (heading_of draft.message) draft.point draft.slc (field_of draft.message))
          (λ e. even_none test a long)

  module _ (plan : Plan) (draft : Draft) where
    abbrev there : ℕ
    there = path_of plan a.links a.marks draft

    -- no link's queue gets shorter
    pub made_more : (link : ℕ) → link < 32 → count_of a.spans link ≤ count_of (with_made plan draft a).spans link
    unfolding made path_of
    made_more link h =
        by_test (λ (now : Held). count_of a.spans link ≤ count_of now.queues.spans link) (has_path plan a.links a.marks draft)
        (joined there (heading_of draft.message) draft.point draft.slc (field_of draft.message))
        (held_in a)
        (λ e.
        let within = ltb-true there none e in
        let goes : Goes a.links there =
        record {
          there = omega arith;
          not_out = way_carries plan a.links a.marks (for_management draft.never) draft.point draft.slc;
        }
        in
        (management_kept a.links queues a.rows octets regular.store a.arrivals there goes (heading_of draft.message) draft.point draft.slc
        (field_of draft.message)).grows.no_less
        link
        h
        (λ same. omega arith))
        (λ e. omega arith)

    -- and its first messages are the same
    pub made_before : (link many : ℕ) → link < 33 → many ≤ count_of a.spans link
        → take many (queue_of (with_made plan draft a) link) ≡ take many (queue_of a link)
    unfolding made
    made_before link many h fits =
        by_test
        (λ (now : Held). take many (queue_of (with_held a now) link) ≡ take many (queue_of a link))
        (has_path plan a.links a.marks draft)
        (joined there (heading_of draft.message) draft.point draft.slc (field_of draft.message))
        (held_in a)
        (λ e.
        let within = ltb-true there none e in
        management_first a.rows octets queues regular.store a.arrivals there (omega arith) (heading_of draft.message) draft.point
        draft.slc
        (field_of draft.message)
        link
        many
        h
        fits)
        (λ e. refl)
