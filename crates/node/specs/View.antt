-- An event as the history of a node sees it: what comes, leaves or ends by it.
use Rattle.std.specs.Prelude.{ℕ}
use Rattle.node.specs.declared.call.Event.{Event}
use Rattle.node.specs.declared.call.Event.TheVariants.{IntoService, Failure, Send, Acknowledgement, Received, FromHost, T1, T2, T3, T4, T6, T8, T10}

pub data View : Type 0 where
  -- a link comes into service
  Comes : ℕ → View
  -- a link fails
  Fails : ℕ → View
  -- level 2 asks for a link's next message
  Sends : ℕ → View
  -- level 2 acknowledges a link's messages up to a number
  Acknowledges : ℕ → ℕ → View
  -- a message comes in over a link with a number
  Arrives : ℕ → ℕ → View
  -- the host hands a message over
  HandedOver : View
  -- a timer of a link's changeover expires, T1 or T2 by its number
  Overdue : ℕ → ℕ → View
  -- any other timer expires
  Expires : View

-- every event
abbrev pub view_of : Event → View
view_of (IntoService link) = Comes link
view_of (Failure link) = Fails link
view_of (Send link) = Sends link
view_of (Acknowledgement link b) = Acknowledges link b
view_of (Received link fsn) = Arrives link fsn
view_of FromHost = HandedOver
view_of (T1 link) = Overdue link 1
view_of (T2 link) = Overdue link 2
view_of (T3 link) = Expires
view_of (T4 link) = Expires
view_of (T6 x) = Expires
view_of (T8 x) = Expires
view_of (T10 x set) = Expires
