-- What holds of each kind of event, whatever it is called with, holds of every event. Assumes nothing.
use mathlib.Core.Path.{◌≡◌, refl}
use Prim.Native.Nat.{ℕ}
use Rattle.node.specs.declared.call.Event.{Event}
use Rattle.node.specs.declared.call.Event.TheVariants.{IntoService, Failure, Send, Acknowledgement, Received, FromHost, T1, T2, T3, T4, T6, T8, T10}
use Rattle.node.specs.View.{View, Comes, Fails, Sends, Acknowledges, Arrives, HandedOver, Overdue, Expires, view_of}

-- a proof for each kind; of the timers that no history tells apart one for all
pub record EachKind (P : View → Event → Type 0) : Type 0 where
  pub comes : (link : ℕ) → P (Comes link) (IntoService link)
  pub fails : (link : ℕ) → P (Fails link) (Failure link)
  pub sends : (link : ℕ) → P (Sends link) (Send link)
  pub acknowledges : (link b : ℕ) → P (Acknowledges link b) (Acknowledgement link b)
  pub arrives : (link fsn : ℕ) → P (Arrives link fsn) (Received link fsn)
  pub handed_over : P HandedOver FromHost
  pub t1 : (link : ℕ) → P (Overdue link 1) (T1 link)
  pub t2 : (link : ℕ) → P (Overdue link 2) (T2 link)
  pub expires : (event : Event) → view_of event ≡ Expires → P Expires event

pub by_view : (P : View → Event → Type 0) → EachKind P → (event : Event) → P (view_of event) event
by_view P each (IntoService link) = each.comes link
by_view P each (Failure link) = each.fails link
by_view P each (Send link) = each.sends link
by_view P each (Acknowledgement link b) = each.acknowledges link b
by_view P each (Received link fsn) = each.arrives link fsn
by_view P each FromHost = each.handed_over
by_view P each (T1 link) = each.t1 link
by_view P each (T2 link) = each.t2 link
by_view P each (T3 link) = each.expires (T3 link) refl
by_view P each (T4 link) = each.expires (T4 link) refl
by_view P each (T6 x) = each.expires (T6 x) refl
by_view P each (T8 x) = each.expires (T8 x) refl
by_view P each (T10 x set) = each.expires (T10 x set) refl
