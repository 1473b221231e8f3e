-- What holds of the events of a link, of one that takes it out, and of those that are about another, holds of every event. Assumes nothing.
use mathlib.Core.Path.{◌≡◌, refl, sym, ap, ◌∙◌, subst}
use mathlib.Core.List.{List}
use Prim.Native.Nat.{ℕ, ◌<◌}
use native.Mathlib.Omega.{arith}
use Rattle.plan.specs.declared.data.Plan.{Plan}
use Rattle.plan.proofs.Split.{alike}
use Rattle.replies.specs.Areas.{Areas}
use Rattle.node.specs.declared.call.Event.{Event}
use Rattle.node.specs.declared.call.Event.TheVariants.{IntoService, Failure, Send, Acknowledgement, Received, FromHost, T1, T2}
use Rattle.node.proofs.Viewed.{EachKind, by_view}
use Rattle.node.specs.View.{View, Comes, Sends, Acknowledges, view_of}
use Rattle.promise_accounts.specs.Ending.{ending_of}
use Rattle.promise_farend.proofs.OnwardReceiving.{but_of}
use Rattle.promise_farend.proofs.OnwardCalls.{own_of}

module _ (plan : Plan) (a : Areas) (message : List ℕ) (link : ℕ) (h : link < 32) (P : View → Event → Type 0) where
  pub record EachOwn : Type 0 where
    -- the link comes into service, sends, or gets an acknowledgement
    pub comes : P (Comes link) (IntoService link)
    pub sends : P (Sends link) (Send link)
    pub acknowledges : (b : ℕ) → P (Acknowledges link b) (Acknowledgement link b)
    -- it goes out
    pub ends : (event : Event) → but_of (ending_of plan a message (view_of event)) ≡ link → P (view_of event) event
    -- nothing of the kind
    pub others : (event : Event) → (own_of plan a message (view_of event) ≡ link → ⊥) → P (view_of event) event

  module _ (each : EachOwn) where
    -- an event that may take a link out
    may_end : (event : Event) → own_of plan a message (view_of event) ≡ but_of (ending_of plan a message (view_of event)) → P (view_of event) event
    may_end event is = alike (own_of plan a message (view_of event)) link (λ own. each.ends event (sym is ∙ own)) (each.others event)

    by_kind : EachKind P
    unfolding own_of
    by_kind =
        record {
          comes = λ other.
              alike other link (λ same. subst (λ (l : ℕ). P (Comes l) (IntoService l)) (sym same) each.comes) (each.others (IntoService other));
          sends = λ other.
              alike other link (λ same. subst (λ (l : ℕ). P (Sends l) (Send l)) (sym same) each.sends) (each.others (Send other));
          acknowledges = λ other b.
              alike other link (λ same. subst (λ (l : ℕ). P (Acknowledges l b) (Acknowledgement l b)) (sym same) (each.acknowledges b))
              (each.others (Acknowledgement other b));
          fails = λ other. may_end (Failure other) refl;
          arrives = λ other fsn. may_end (Received other fsn) refl;
          t1 = λ other. may_end (T1 other) refl;
          t2 = λ other. may_end (T2 other) refl;
          handed_over = each.others FromHost (λ e. omega arith);
          expires = λ event is.
              subst (λ (view : View). P view event) is (each.others event (λ e. omega (arith, e, ap (own_of plan a message) is)));
        }

    pub by_link : (event : Event) → P (view_of event) event
    by_link = by_view P by_kind
