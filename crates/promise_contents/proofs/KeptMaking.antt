-- A message that the node makes, and a link that goes out, leave what is held of the others.
-- Assumes nothing.
use mathlib.Core.Path.{◌≡◌}
use mathlib.Core.List.{List}
use Prim.Native.Nat.{ℕ}
use lib.ListN.{length}
use Rattle.plan.specs.declared.data.Plan.{Plan}
use Rattle.replies.specs.Reply.{done}
use Rattle.replies.specs.Areas.{Areas, Outcome, outcome, judged, refused}
use Rattle.queue_heads.specs.Head.{both}
use Rattle.queue_joining.specs.Queue.{management_queues, rows_with_management, management_arrivals}
use Rattle.wire_messages.specs.Management.{heading_of, field_of}
use Rattle.management_making.specs.declared.Draft.{Draft}
use Rattle.management_making.specs.Make.{Held, path_of, has_path, made, held_in, with_made}
use Rattle.changeover_cuts.specs.declared.Cut.{Cut}
use Rattle.changeover_ending.specs.End.{out_of_service}
use Rattle.management_steps.specs.declared.Step.{Step}
use Rattle.management_orders.specs.Carry.{answer_reply, with_answer, ended_by, carried}
use Rattle.promise_runs.proofs.Outcomes.{by_test, if_done_lem}
use Rattle.promise_contents.specs.Content.{Content, content, Kept}
use Rattle.promise_contents.proofs.Kept.{content_in, kept_none, management_kept}

module _ (a : Areas) (octets : List ℕ) where
  abbrev now : Content
  now = content_in a octets

  -- what is held is kept, by areas and by an outcome that write no octets
  abbrev pub KeptIn : Areas → Type 0
  KeptIn b = Kept now (content_in b octets)

  abbrev pub KeptBy : Outcome → Type 0
  KeptBy o = KeptIn o.after

  -- done, or refused
  pub judged_kept : (reply : ℕ) (does : Outcome) → KeptBy does → KeptBy (judged reply does a)
  judged_kept reply does kept = if_done_lem KeptBy reply does (refused reply a) (λ e. kept) (kept_none now)

  -- a link goes out: slots move from ring to ring
  pub out_kept : (plan : Plan) (b : Areas) → KeptIn b → (link : ℕ) (parts : Cut) → KeptBy (out_of_service plan b link parts)
  unfolding out_of_service
  out_kept plan b kept link parts = kept

  module _ (all : length a.rows ≡ 2048) where
    -- a management message at the end of a queue
    abbrev pub joined : ℕ → ℕ → ℕ → ℕ → ℕ → Held
    joined ring heading point slc field =
        record {
          queues = management_queues (both a.spans a.rings) a.arrivals ring;
          rows = rows_with_management (both a.spans a.rings) a.arrivals a.rows heading point slc field;
          arrivals = management_arrivals a.spans a.arrivals;
        }

    -- it is written into its slot
    pub joined_kept : (ring heading point slc field : ℕ)
        → let then = joined ring heading point slc field in
        Kept now (content then.rows octets then.arrivals)
    joined_kept ring heading point slc field =
        management_kept a.rows octets a.arrivals all (both a.spans a.rings) heading point slc field

    module _ (plan : Plan) where
      -- a message that is made, or has no path
      pub made_kept : (draft : Draft) → KeptIn (with_made plan draft a)
      unfolding made
      made_kept draft =
          let path = path_of plan a.links a.marks draft in
          by_test (λ (then : Held). Kept now (content then.rows octets then.arrivals)) (has_path plan a.links a.marks draft)
          (joined path (heading_of draft.message) draft.point draft.slc (field_of draft.message))
          (held_in a)
          (λ e. joined_kept path (heading_of draft.message) draft.point draft.slc (field_of draft.message))
          (λ e. kept_none now)

      -- the answer that a step asks
      answer_kept : (step : Step) → KeptIn (with_answer plan step a)
      unfolding with_answer
      answer_kept step =
          by_test KeptIn step.answers (with_made plan step.draft a) a (λ e. made_kept step.draft) (λ e. kept_none now)

      -- the link that goes out by a step, if one does
      ended_kept : (step : Step) (b : Areas) → KeptIn b → KeptBy (ended_by plan step b)
      unfolding ended_by
      ended_kept step b kept =
          by_test KeptBy step.ends (out_of_service plan b step.link step.parts) (outcome (done 0) b)
          (λ e. out_kept plan b kept step.link step.parts)
          (λ e. kept)

      -- a step that is carried out
      pub carried_kept : (step : Step) → KeptBy (carried plan step a)
      unfolding carried
      carried_kept step =
          let ended : Outcome = ended_by plan step (with_answer plan step a) in
          judged_kept step.reply (judged (answer_reply plan step a) ended a)
          (judged_kept (answer_reply plan step a) ended (ended_kept step (with_answer plan step a) (answer_kept step)))
