-- A link line put into the plan.
use Rattle.std.specs.Prelude.{ℕ, ◌+◌, true, cond, not, ◌||◌, List, set, ltb, leb, Result, Ok, Err}
use Rattle.plan.specs.declared.data.Plan.{Plan}
use Rattle.plan.specs.Data.{set_at, link_at, links_of}
use Rattle.plan_repeats.specs.Taken.{slc_taken, lower}
use Rattle.plan_entries.specs.Insert.{inserted}
use Rattle.plan_building.specs.declared.Fault.{Fault}
use Rattle.plan_building.specs.declared.Fault.TheVariants.{OutOfRange, Repeat, NotGiven, Full}

-- the links of a set with one more: "Links of a set stand in SLC order." (R76)
abbrev pub links_with : Plan → ℕ → ℕ → ℕ → List ℕ
links_with plan number those slc = inserted (lower plan (links_of plan those) slc) number (set_at plan those).links

-- the plan with a link, which stands among these links of its set
abbrev pub with_link : Plan → ℕ → ℕ → ℕ → List ℕ → Plan
with_link plan number those slc links =
    record {
      given = plan.given;
      code = plan.code;
      ni = plan.ni;
      count = plan.count;
      sets =
          set plan.sets those
          (record { given = true; adjacent = (set_at plan those).adjacent; count = (set_at plan those).count + 1; links = links });
      links = set plan.links number (record { given = true; set = those; slc = slc });
      destinations = plan.destinations;
    }

-- `link number set slc`: "23 names something not given above" (R168); "22 a repeat (.. link number, SLC in a set" (R171); "24 table full" (R174).
-- The sizes are R8, R10 and R15, the order is R164.
abbrev pub add_link : Plan → ℕ → ℕ → ℕ → Result Plan Fault
add_link plan number those slc =
    cond (ltb 31 number || (ltb 7 those || ltb 15 slc)) (Err OutOfRange)
    (cond (not (set_at plan those).given) (Err NotGiven)
    (cond ((link_at plan number).given || slc_taken plan (links_of plan those) slc) (Err Repeat)
    (cond (leb 8 (set_at plan those).count) (Err Full)
    (Ok (with_link plan number those slc (links_with plan number those slc))))))
