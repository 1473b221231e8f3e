-- A link line put into a sound plan leaves a sound plan, and a refused one the plan as it was. Assumes nothing.
use mathlib.Core.Path.{◌≡◌, ◌∙◌}
use mathlib.Core.Bool.{true, false, not, ◌||◌}
use Prim.Native.Nat.{ℕ, ◌≤◌, ◌<◌}
use native.Mathlib.Omega.{arith}
use lib.Dec.{ltb, leb}
use lib.ListN.{set, length-set}
use borrow.Author.Tests.{ltb-false, leb-false}
use Rattle.plan.specs.declared.data.Plan.{Plan}
use Rattle.plan.specs.declared.data.Link.{Link}
use Rattle.plan.specs.Data.{set_at, link_at, links_of}
use Rattle.plan.specs.Sound.{Sound}
use Rattle.plan_repeats.specs.Taken.{slc_taken, lower}
use Rattle.plan_building.specs.Building.{Kept}
use Rattle.plan_links.specs.LinkLines.{links_with, with_link, add_link}
use Rattle.plan_entries.proofs.Inserted.{inserted_length}
use Rattle.plan.proofs.Sound.{sound_of, linked, listed}
use Rattle.plan.proofs.Split.{both_false}
use Rattle.plan_building.proofs.SetKept.{set_linked}
use Rattle.plan_building.proofs.Kept.{choose, refuse, accept}
use Rattle.plan_links.proofs.LinkKept.{holds_still, holds_more}
use Rattle.plan_building.specs.declared.Fault.TheVariants.{OutOfRange, Repeat, NotGiven, Full}

module _ (plan : Plan) (sound : Sound plan) (number those slc : ℕ) where
  -- a link is put in that wasn't given, with an SLC that its set didn't have
  link_sound : number < 32 → those < 8 → (link_at plan number).given ≡ false → slc_taken plan (links_of plan those) slc ≡ false → (set_at plan those).count < 8
      → Sound (with_link plan number those slc (links_with plan number those slc))
  link_sound in_table in_sets absent new-slc room =
      let link : Link = record { given = true; set = those; slc = slc } in
      let before = linked plan sound in
      sound_of _
      (set_linked plan.sets plan.links (set plan.links number link) those _ before in_sets
      (inserted_length (lower plan (links_of plan those) slc) number (set_at plan those).links ∙ sound.eight_places those in_sets)
      (length-set plan.links number link ∙ sound.all_links)
      (holds_more plan.links those number slc (set_at plan those).count (set_at plan those).links sound.all_links
      (sound.eight_places those in_sets) in_table room absent (before.holds those) new-slc)
      (λ other. holds_still plan.links number link absent other _ (before.holds other)))
      (listed plan sound)

  pub link_kept : Kept plan (add_link plan number those slc)
  link_kept =
      choose plan (ltb 31 number || (ltb 7 those || ltb 15 slc)) _ _ (λ e. refuse plan sound OutOfRange)
      (λ e.
      let range = both_false (ltb 31 number) (ltb 7 those || ltb 15 slc) e in
      let in_table : number ≤ 31 = ltb-false 31 number range.0 in
      let in_sets : those ≤ 7 = ltb-false 7 those (both_false (ltb 7 those) (ltb 15 slc) range.1).0 in
      choose plan (not (set_at plan those).given) _ _ (λ f. refuse plan sound NotGiven)
      (λ f. choose plan ((link_at plan number).given || slc_taken plan (links_of plan those) slc) _ _ (λ g. refuse plan sound Repeat)
      (λ g.
      let fresh = both_false (link_at plan number).given (slc_taken plan (links_of plan those) slc) g in
      choose plan (leb 8 (set_at plan those).count) _ _ (λ full. refuse plan sound Full)
      (λ room. accept plan _ (link_sound (omega arith) (omega arith) fresh.0 fresh.1 (leb-false 8 (set_at plan those).count room))))))
