-- A message for another point that has a way and asks for a place: what is answered, and what is left then. Assumes nothing.
use mathlib.Core.Path.{◌≡◌, refl, sym, ap, ◌∙◌}
use mathlib.Core.Bool.{Bool, true, false, not}
use mathlib.Core.List.{List, []}
use Prim.Native.Nat.{ℕ, ◌≤◌, ◌<◌}
use lib.Dec.{eqb, ltb}
use lib.ListN.{length}
use borrow.Author.Tests.{lt-ltb, le-ltb}
use Rattle.plan.specs.declared.data.Plan.{Plan}
use Rattle.wire.specs.declared.header.Label.{Label}
use Rattle.replies.specs.Areas.{Areas, areas}
use Rattle.route_serving.specs.declared.Need.{Need}
use Rattle.route_choice.specs.Which.{none}
use Rattle.route_ways.specs.Way.{for_users, way_of}
use Rattle.queue_joining.specs.Queue.{with_user}
use Rattle.queue_joining.proofs.Queued.{UserLeaves, user_refused}
use Rattle.management_making.specs.Make.{held_in, with_held}
use Rattle.passing_passage.specs.Passage.{link_of, unreachable, ring_by, ring_of, place_reply, queued, octets_queued}

module _ (plan : Plan) (a : Areas) (label : Label) where
  -- the way that the code finds is its current link
  link_is : (need : Need) → need ≡ for_users → (link : ℕ)
      → link ≡ way_of plan a.links a.marks need label.dpc label.sls → link ≡ link_of plan a label
  unfolding link_of
  link_is need is link e = e ∙ ap (λ (n : Need). way_of plan a.links a.marks n label.dpc label.sls) is

  way_by : (link : ℕ) → link ≡ link_of plan a label → (said : Bool) → ltb link none ≡ said → unreachable plan a label ≡ not said
  way_by link is said e = ap (λ (n : ℕ). not (ltb n none)) (sym is) ∙ ap not e

  -- there is none
  pub no_way : (need : Need) → need ≡ for_users → (link : ℕ)
      → link ≡ way_of plan a.links a.marks need label.dpc label.sls → none ≤ link → unreachable plan a label ≡ true
  no_way need is link e h = way_by link (link_is need is link e) false (le-ltb link none h)

-- a message has a way, and a place was asked for: what was answered, and what is left then
pub record Placed (plan : Plan) (a : Areas) (label : Label) (octets message : List ℕ) (reply : ℕ) (after : Areas) (octets' : List ℕ) : Type 0 where
  pub has_way : unreachable plan a label ≡ false
  pub replies : reply ≡ place_reply a
  pub queues : after ≡ queued plan a label (length message)
  pub writes : octets' ≡ octets_queued a octets message

pub placed : (plan : Plan) (a : Areas) (label : Label) (octets message : List ℕ) (need : Need) → need ≡ for_users → (link : ℕ)
    → link ≡ way_of plan a.links a.marks need label.dpc label.sls → link < none
    → (ring : ℕ) → ring ≡ ring_by plan a.marks label link
    → (reply : ℕ) (spans rings rows octets' arrivals : List ℕ)
    → UserLeaves a.spans a.rings a.arrivals a.rows octets message ring label.dpc label.sls reply spans rings rows octets' arrivals
    → Placed plan a label octets message reply (areas a.links a.marks spans rings rows arrivals a.reports) octets'
unfolding queued octets_queued
placed plan a label octets message need is link e h ring rung reply spans rings rows octets' arrivals left =
    let current = link_is plan a label need is link e in
    let ring-is : ring ≡ ring_of plan a label = rung ∙ ap (λ (l : ℕ). ring_by plan a.marks label l) current in
    record {
      has_way = way_by plan a label link current true (lt-ltb link none h);
      replies = left.0;
      queues =
          ap (with_held a) left.1.0
          ∙ ap (λ (r : ℕ). with_held a (with_user r label.dpc label.sls (length message) (held_in a))) ring-is;
      writes = left.1.1;
    }

-- one that finds no place or number leaves all as it was
pub queued_kept : (plan : Plan) (a : Areas) (label : Label) (message : List ℕ) → eqb (place_reply a) 0 ≡ false
    → queued plan a label (length message) ≡ a
unfolding queued
queued_kept plan a label message lacks =
    let kept =
    user_refused a.spans a.rings a.arrivals a.rows [] message (ring_of plan a label) label.dpc label.sls
    (place_reply a)
    refl
    lacks
    in
    sym (ap (with_held a) kept.1.0)
