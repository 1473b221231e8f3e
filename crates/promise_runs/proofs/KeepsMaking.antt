-- A message that the node makes, or doesn't, leaves a regular state regular.
-- Assumes nothing.
use mathlib.Core.List.{List}
use Prim.Native.Nat.{ℕ, ◌<◌}
use native.Mathlib.Omega.{arith}
use borrow.Author.Tests.{ltb-true}
use Rattle.plan.specs.declared.data.Plan.{Plan}
use Rattle.replies.specs.Areas.{Areas}
use Rattle.route_choice.specs.Which.{none}
use Rattle.route_ways.specs.Way.{for_management}
use Rattle.queue_heads.specs.Head.{both}
use Rattle.queue_joining.specs.Queue.{management_queues, rows_with_management, management_arrivals}
use Rattle.wire_messages.specs.Management.{heading_of, field_of}
use Rattle.management_making.specs.declared.Draft.{Draft}
use Rattle.management_making.specs.Make.{Held, path_of, has_path, made, held_in, with_made}
use Rattle.promise_runs.specs.Regular.{Regular}
use Rattle.promise_runs.proofs.Carrying.{way_carries}
use Rattle.promise_runs.proofs.Growing.{Goes}
use Rattle.promise_runs.proofs.Queued.{management_kept}
use Rattle.promise_runs.proofs.Keeping.{grew}
use Rattle.promise_runs.proofs.Outcomes.{RegularIn, by_test}

module _ (a : Areas) (octets : List ℕ) (regular : RegularIn a octets) where
  -- a management message at the end of a queue that it may go to
  pub management_regular : (ring : ℕ) → Goes a.links ring → (heading point slc field : ℕ)
      → let after = management_queues (both a.spans a.rings) a.arrivals ring in
      Regular a.links after.spans after.rings
      (rows_with_management (both a.spans a.rings) a.arrivals a.rows heading point slc field)
      octets
  management_regular ring goes heading point slc field =
      grew a.links a.spans a.rings a.rows octets regular 34 (omega arith)
      (rows_with_management (both a.spans a.rings) a.arrivals a.rows heading point slc field)
      octets
      (management_queues (both a.spans a.rings) a.arrivals ring)
      (management_kept a.links (both a.spans a.rings) a.rows octets regular.store a.arrivals ring goes heading point slc field)

  module _ (plan : Plan) (draft : Draft) where
    -- its path is an open link
    path_goes : path_of plan a.links a.marks draft < none → Goes a.links (path_of plan a.links a.marks draft)
    unfolding path_of
    path_goes h =
        record {
          there = omega arith;
          not_out = way_carries plan a.links a.marks (for_management draft.never) draft.point draft.slc;
        }

    pub made_regular : RegularIn (with_made plan draft a) octets
    unfolding made
    made_regular =
        by_test (λ (held : Held). Regular a.links held.queues.spans held.queues.rings held.rows octets)
        (has_path plan a.links a.marks draft)
        (record {
          queues = management_queues (both a.spans a.rings) a.arrivals (path_of plan a.links a.marks draft);
          rows =
              rows_with_management (both a.spans a.rings) a.arrivals a.rows (heading_of draft.message) draft.point draft.slc
              (field_of draft.message);
          arrivals = management_arrivals a.spans a.arrivals;
        })
        (held_in a)
        (λ e.
        management_regular (path_of plan a.links a.marks draft)
        (path_goes (ltb-true (path_of plan a.links a.marks draft) none e))
        (heading_of draft.message)
        draft.point
        draft.slc
        (field_of draft.message))
        (λ e. regular)
