-- What is decided about a message for another point: its current link, the ring that it goes to, what it leaves where it is queued, and
-- whether a TFP is due where it has no way.
use Rattle.std.specs.Prelude.{ℕ, Bool, true, cond, not, ◌&&◌, List, ltb}
use Rattle.constants.specs.Constants.{no_link, t6, t8}
use Rattle.plan.specs.declared.data.Plan.{Plan}
use Rattle.plan.specs.Find.{place_of, is_found}
use Rattle.area_flags.specs.Flags.{flag_at, with_flag}
use Rattle.wire.specs.declared.header.Label.{Label}
use Rattle.wire_messages.specs.declared.management.Message.TheVariants.{TFP}
use Rattle.replies.specs.Areas.{Areas, areas}
use Rattle.route_choice.specs.Which.{none}
use Rattle.lookup.specs.Lookup.{adjacent_of}
use Rattle.route_ways.specs.declared.Direction.{Direction}
use Rattle.route_ways.specs.Way.{for_users, way_of}
use Rattle.queue_heads.specs.Head.{both}
use Rattle.queue_joining.specs.Queue.{user_reply, user_queues, rows_with_user, user_octets, user_arrivals}
use Rattle.management_making.specs.declared.Draft.{Draft}
use Rattle.queue_moving.specs.Move.{apart}

-- the current link of a message for another point
unfoldable pub link_of : Plan → Areas → Label → ℕ
link_of plan a label = way_of plan a.links a.marks for_users label.dpc label.sls

-- "DPC not configured or inaccessible" (R53)
abbrev pub unreachable : Plan → Areas → Label → Bool
unreachable plan a label = not (ltb (link_of plan a label) none)

-- "X's new user messages are held apart" (R151) while T6 runs (R142)
unfoldable pub ring_by : Plan → List ℕ → Label → ℕ → ℕ
ring_by plan marks label link = cond (flag_at marks (place_of plan label.dpc) t6) apart link

-- the same of a message whose direction is given
abbrev pub ring_at : List ℕ → Direction → ℕ
ring_at marks to = cond (flag_at marks to.place t6) apart to.link

-- the ring of a message by its label: that of its current link, or of those held apart (R114)
abbrev pub ring_of : Plan → Areas → Label → ℕ
ring_of plan a label = ring_by plan a.marks label (link_of plan a label)

-- the reply to a message that has a way: 7 or 10 where it finds no place or number
abbrev pub place_reply : Areas → ℕ
place_reply a = user_reply a.spans a.arrivals

-- the areas with the message queued (R214)
unfoldable pub queued : Plan → Areas → Label → ℕ → Areas
queued plan a label size =
    let queues = user_queues (both a.spans a.rings) a.arrivals (ring_of plan a label) in
    areas a.links a.marks queues.spans queues.rings
    (rows_with_user (both a.spans a.rings) a.arrivals a.rows label.dpc label.sls size)
    (user_arrivals a.spans a.arrivals) a.reports

-- the octets with the message written
unfoldable pub octets_queued : Areas → List ℕ → List ℕ → List ℕ
octets_queued a octets message = user_octets (both a.spans a.rings) a.arrivals octets message

-- the TFP "to that link's adjacent point" (R70, R87)
unfoldable pub prohibited_to : Plan → ℕ → ℕ → Draft
prohibited_to plan arriving x = record { message = TFP x; point = adjacent_of plan arriving; slc = 0; never = no_link }

-- "unless T8 runs for the configured destination" (R71); "An unconfigured DPC makes none." (R73)
unfoldable pub tells : Plan → List ℕ → ℕ → Bool
tells plan marks x = is_found plan x && not (flag_at marks (place_of plan x) t8)

-- the flags with T8 running (R72)
unfoldable pub with_t8 : Plan → List ℕ → ℕ → List ℕ
with_t8 plan marks x = with_flag marks (place_of plan x) t8 true
