-- What the expiry of a destination's or a route's timer asks: T6, T8 and T10.
use Rattle.std.specs.Prelude.{ℕ, Bool, false, not, ◌&&◌, ◌||◌, List, [], ◌∷◌, ltb, leb}
use Rattle.constants.specs.Constants.{no_link, t8}
use Rattle.plan.specs.declared.data.Plan.{Plan}
use Rattle.plan.specs.Data.{set_at}
use Rattle.plan.specs.Find.{place_of, is_found}
use Rattle.area_flags.specs.Flags.{flag_at, with_flag}
use Rattle.replies.specs.Reply.{Row, row, first, if_done}
use Rattle.lookup.specs.Lookup.{is_set, rank_by}
use Rattle.wire_messages.specs.declared.management.Message.TheVariants.{RST}
use Rattle.management_making.specs.declared.Draft.{Draft}

-- whether a destination "named by the host" (R44) is configured; without a node none is
unfoldable pub is_destination : Plan → ℕ → Bool
is_destination plan x = plan.given && is_found plan x

-- the reply to the expiry of a destination's timer: 1, 2, 5 where it isn't running (R45)
abbrev pub refusals_of : Plan → List ℕ → ℕ → ℕ → List Row
refusals_of plan marks x timer =
    row 1 (leb 16384 x)
    ∷ row 2 (not (is_destination plan x))
    ∷ row 5 (not (flag_at marks (place_of plan x) timer))
    ∷ []

unfoldable pub reply_of : Plan → List ℕ → ℕ → ℕ → ℕ
reply_of plan marks x timer = first (refusals_of plan marks x timer)

-- T8 only stops
unfoldable pub expired_t8 : Plan → List ℕ → ℕ → List ℕ
expired_t8 plan marks x = if_done (reply_of plan marks x t8) (with_flag marks (place_of plan x) t8 false) marks

-- the reply to T10's expiry, for the route to X by a set: 1, 2, 5 where no mark stands
abbrev pub refusals_t10 : Plan → List ℕ → ℕ → ℕ → List Row
refusals_t10 plan marks x set =
    row 1 (leb 16384 x || leb 8 set)
    ∷ row 2 (not (is_destination plan x && is_set plan set))
    ∷ row 5 (not (ltb (rank_by plan (place_of plan x) set) 4 && flag_at marks (place_of plan x) (rank_by plan (place_of plan x) set)))
    ∷ []

unfoldable pub reply_t10 : Plan → List ℕ → ℕ → ℕ → ℕ
reply_t10 plan marks x set = first (refusals_t10 plan marks x set)

-- the RST to the set's adjacent point (R87, R146)
unfoldable pub test_of : Plan → ℕ → ℕ → Draft
test_of plan x set =
    record { message = RST x; point = (set_at plan set).adjacent; slc = 0; never = no_link }
