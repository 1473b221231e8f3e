-- A message from a link with reply 9: its TFP, where one is due, stands at the end of its path's queue, and every other queue is as it was.
-- Assumes nothing.
use mathlib.Core.Path.{◌≡◌, refl, sym, ap, ◌∙◌, subst}
use mathlib.Core.Bool.{Bool, true, false, cond, not, ◌&&◌, and-eq-true_iff}
use mathlib.Core.List.{List, [], ◌∷◌, ◌++◌, append-nil}
use Prim.Native.Nat.{ℕ, ◌+◌, ◌<◌}
use native.Mathlib.Nat.{add-zero}
use native.Mathlib.Omega.{arith}
use lib.Dec.{eqb}
use lib.ListN.{length}
use borrow.Author.Tests.{ltb-true, eq-eqb, not-true}
use Rattle.plan.specs.declared.data.Plan.{Plan}
use Rattle.plan.proofs.Split.{both_false}
use Rattle.queue_store.specs.Sound.{Sound, bit}
use Rattle.wire.specs.declared.header.Label.{Label}
use Rattle.replies.specs.Reply.{first}
use Rattle.replies.specs.Areas.{Areas}
use Rattle.queue_joining.specs.Queue.{next_of, no_management_place, no_number, management_reply, management_arrivals}
use Rattle.management_making.specs.declared.Draft.{Draft}
use Rattle.management_making.specs.Make.{Held, path_of, has_path, is_made, made, held_in}
use Rattle.discrimination.specs.declared.Came.{Came}
use Rattle.discrimination.specs.declared.Came.TheVariants.{Passed}
use Rattle.discrimination.specs.Discrimination.{from_link}
use Rattle.passing_passage.specs.Passage.{unreachable, prohibited_to, tells}
use Rattle.node.specs.declared.call.Event.TheVariants.{Received}
use Rattle.node.specs.Memory.{Memory}
use Rattle.node.specs.Call.{call_of}
use Rattle.promise_ledger.specs.Held.{numbers}
use Rattle.promise_accounts.specs.Gone.{queue_of}
use Rattle.promise_accounts.proofs.Answers.{made_joined}
use Rattle.promise_table.specs.Received.{makes_tfp, lacking, is_unreachable}
use Rattle.promise_table.specs.Unchanged.{with_tfp}
use Rattle.promise_table.specs.Table.{rows_of}
use Rattle.promise_table.proofs.FirstRow.{the_table}
use Rattle.promise_table.proofs.Taken.{taken_unreached}
use Rattle.promise_queueing.specs.Joining.{joins_tfp, TFPJoins}
use Rattle.promise_queueing.proofs.Joining.{one_counted}
use Rattle.promise_queueing.proofs.Only.{Only, only_first}
use Rattle.promise_queueing.proofs.Only.Only.{end, past, full}

-- a management message that finds a place and a number uses it up
management_counted : (spans arrivals : List ℕ) → management_reply spans arrivals ≡ 0 → length arrivals ≡ 1
    → next_of (management_arrivals spans arrivals) ≡ next_of arrivals + 1
unfolding management_arrivals
management_counted spans arrivals done one =
    simp (eq-eqb (management_reply spans arrivals) 0 done) (one_counted arrivals one)

-- what is held by whether something is due
by_due : (due : Bool) (then old : Held) (ring : ℕ) (here : Bool) (new : List ℕ)
    → (due ≡ true → numbers then.rows then.queues ring ≡ numbers old.rows old.queues ring ++ cond here new [])
    → numbers (cond due then old).rows (cond due then old).queues ring
    ≡ numbers old.rows old.queues ring ++ cond (due && here) new []
by_due true then old ring here new so = so refl
by_due false then old ring here new so = sym (append-nil (numbers old.rows old.queues ring))

by_due_counted : (due : Bool) (then old : Held) → (due ≡ true → next_of then.arrivals ≡ next_of old.arrivals + 1)
    → next_of (cond due then old).arrivals ≡ next_of old.arrivals + bit due
by_due_counted true then old so = so refl
by_due_counted false then old so = sym (add-zero (next_of old.arrivals))

module _
    (plan : Plan)
    (a : Areas)
    (octets : List ℕ)
    (sound : Sound a.spans a.rings a.rows octets)
    (one : length a.arrivals ≡ 1)
    (link x : ℕ) where
  abbrev draft : Draft
  draft = prohibited_to plan link x

  abbrev due : Bool
  due = makes_tfp plan a link x

  abbrev path : ℕ
  path = path_of plan a.links a.marks draft

  -- one that is due has a path
  on_path : due ≡ true → has_path plan a.links a.marks draft ≡ true
  on_path e = ((and-eq-true_iff (tells plan a.marks x) (has_path plan a.links a.marks draft)).0 e).1

  there : due ≡ true → path < 32
  there e = ltb-true path 32 (on_path e)

  -- it is made where it finds a place and a number
  pub tfp_joins : (due ≡ true → management_reply a.spans a.arrivals ≡ 0) → TFPJoins plan link x a (with_tfp plan link x a)
  unfolding joins_tfp made is_made
  tfp_joins placed = record {
    finds_path = there;
    queues =
        λ ring low.
        by_due due (made plan a.links a.marks draft (held_in a)) (held_in a) ring (eqb ring path) (next_of a.arrivals ∷ [])
        (λ e.
        let is_made_here : is_made plan a.links a.marks a.spans a.arrivals draft ≡ true =
        simp (on_path e, eq-eqb (management_reply a.spans a.arrivals) 0 (placed e))
        in
        made_joined a octets sound plan draft ring low
        ∙ ap (λ (t : Bool). queue_of a ring ++ cond (t && eqb ring path) (next_of a.arrivals ∷ []) []) is_made_here);
    counted =
        by_due_counted due (made plan a.links a.marks draft (held_in a)) (held_in a)
        (λ e. simp (on_path e) (management_counted a.spans a.arrivals (placed e) one));
  }

-- a management message that lacks nothing is replied 0
not_lacking : (a : Areas) → lacking a ≡ false → management_reply a.spans a.arrivals ≡ 0
unfolding management_reply first
not_lacking a e =
    let parts = both_false (no_management_place a.spans) (no_number a.arrivals) e in
    simp (parts.0, parts.1)

module _ (plan : Plan) (link fsn : ℕ) (message : List ℕ) (m : Memory) where
  abbrev came : Came
  came = from_link plan message

  -- the row of reply 9
  nine_rows : Only 9 (is_unreachable plan m.areas link came) (rows_of plan (Received link fsn) message m)
  unfolding rows_of
  nine_rows =
      past _ _ refl (past _ _ refl (past _ _ refl (past _ _ refl (past _ _ refl (past _ _ refl
      (full _ _ (λ e. e) (past _ _ refl (past _ _ refl (past _ _ refl (past _ _ refl end))))))))))

  abbrev reply : ℕ
  reply = (call_of plan (Received link fsn) message m).answer.reply

  nine_applies : reply ≡ 9 → is_unreachable plan m.areas link came ≡ true
  nine_applies is =
      only_first 9 (is_unreachable plan m.areas link came) (omega arith) (rows_of plan (Received link fsn) message m) nine_rows
      (sym (the_table plan (Received link fsn) message m) ∙ is)

  -- so that a TFP that is due finds a place and a number
  place_there : (label : Label) → came ≡ Passed label → reply ≡ 9 → makes_tfp plan m.areas link label.dpc ≡ true
      → management_reply m.areas.spans m.areas.arrivals ≡ 0
  unfolding is_unreachable
  place_there label same is due =
      let a = m.areas in
      let makes = makes_tfp plan a link label.dpc in
      let applies : is_unreachable plan a link (Passed label) ≡ true = ap (is_unreachable plan a link) (sym same) ∙ nine_applies is in
      let both_there = (and-eq-true_iff (unreachable plan a label) (not (makes && lacking a))).0 applies in
      let lacks : (makes && lacking a) ≡ false = not-true (makes && lacking a) both_there.1 in
      not_lacking a (ap (λ (t : Bool). t && lacking a) (sym due) ∙ lacks)

  pub nine_joins : Sound m.areas.spans m.areas.rings m.areas.rows m.octets → length m.areas.arrivals ≡ 1 → reply ≡ 9
      → (label : Label)
      × ((came ≡ Passed label) × TFPJoins plan link label.dpc m.areas (call_of plan (Received link fsn) message m).after.areas)
  nine_joins sound one is =
      let left = taken_unreached plan link fsn message m is in
      let label : Label = left.0 in
      let joins = tfp_joins plan m.areas m.octets sound one link label.dpc (place_there label left.1.0 is) in (
        label,
        (
          left.1.0,
          subst (λ (after : Memory). TFPJoins plan link label.dpc m.areas after.areas) (sym left.1.1)
              (record { finds_path = joins.finds_path; queues = joins.queues; counted = joins.counted }),
        ),
      )
