-- What follows of a sound plan, and that the empty plan is one: its sets and links apart from its destinations. Assumes nothing.
use mathlib.Core.Path.{◌≡◌, refl, sym, ap, subst, ◌∙◌}
use mathlib.Core.Bool.{true}
use mathlib.Core.List.{List, []}
use Prim.Native.Nat.{ℕ, ◌<◌}
use native.Mathlib.Omega.{arith}
use lib.ListN.{length, get_or, take, replicate, get_or-replicate, get_or-eq_default}
use Rattle.plan.specs.declared.data.Plan.{Plan}
use Rattle.plan.specs.declared.data.LinkSet.{LinkSet}
use Rattle.plan.specs.declared.data.Link.{Link}
use Rattle.plan.specs.declared.data.Destination.{Destination}
use Rattle.plan.specs.Data.{absent_set, absent_link, absent_destination, empty_set, empty_destination, empty_plan, link_at, links_of}
use Rattle.plan.specs.Find.{code_at, given}
use Rattle.plan.specs.Sound.{Sound, link_in}
use Rattle.plan.proofs.Order.{Ascending}
use Rattle.plan.proofs.Split.{split}

-- the links of a set, in their order
abbrev pub first_links : LinkSet → List ℕ
first_links those = take those.count those.links

-- the links of one set are in order, and agree with the table of links
pub record Holds (links : List Link) (those : ℕ) (own : List ℕ) : Type 0 where
  pub order : Ascending (λ i. (get_or links (get_or own i 0) absent_link).slc) (length own)
  pub table : (i : ℕ) → i < length own → get_or own i 0 < 32
  pub present : (i : ℕ) → i < length own → (get_or links (get_or own i 0) absent_link).given ≡ true
  pub belongs : (i : ℕ) → i < length own → (get_or links (get_or own i 0) absent_link).set ≡ those

-- the sets and links of a sound plan
pub record Linked (sets : List LinkSet) (links : List Link) : Type 0 where
  pub eight_sets : length sets ≡ 8
  pub all_links : length links ≡ 32
  pub eight_places : (those : ℕ) → those < 8 → length (get_or sets those absent_set).links ≡ 8
  pub holds : (those : ℕ) → Holds links those (first_links (get_or sets those absent_set))

-- the destinations of a sound plan
pub record Listed (n : ℕ) (destinations : List Destination) : Type 0 where
  pub all_destinations : length destinations ≡ 64
  pub four_ranks : (place : ℕ) → place < 64 → length (get_or destinations place absent_destination).routes ≡ 4
  pub ascending : Ascending (code_at destinations) n

module _ (plan : Plan) where
  pub sound_of : Linked plan.sets plan.links → Listed (given plan) plan.destinations → Sound plan
  sound_of linked listed =
      record {
        eight_sets = linked.eight_sets;
        all_links = linked.all_links;
        all_destinations = listed.all_destinations;
        eight_places = linked.eight_places;
        four_ranks = listed.four_ranks;
        ascending = listed.ascending;
        slc_order = λ those. (linked.holds those).order;
        in_table = λ those. (linked.holds those).table;
        is_given = λ those. (linked.holds those).present;
        own_set = λ those. (linked.holds those).belongs;
      }

  module _ (sound : Sound plan) where
    pub linked : Linked plan.sets plan.links
    linked =
        record {
          eight_sets = sound.eight_sets;
          all_links = sound.all_links;
          eight_places = sound.eight_places;
          holds =
              λ those. record {
                order = sound.slc_order those;
                table = sound.in_table those;
                present = sound.is_given those;
                belongs = sound.own_set those;
              };
        }

    pub listed : Listed (given plan) plan.destinations
    listed = record { all_destinations = sound.all_destinations; four_ranks = sound.four_ranks; ascending = sound.ascending }

    -- every link of a set is below 32
    pub links_below : (those i : ℕ) → i < length (links_of plan those) → link_in plan those i < 32
    links_below = sound.in_table

    -- no link stands in two sets, or twice in one
    pub one_place : (s s' i i' : ℕ) → i < length (links_of plan s) → i' < length (links_of plan s')
        → link_in plan s i ≡ link_in plan s' i' → (s ≡ s') × (i ≡ i')
    one_place s s' i i' h h' same =
        let one_set : s ≡ s' = sym (sound.own_set s i h) ∙ ap (λ (n : ℕ). (link_at plan n).set) same ∙ sound.own_set s' i' h' in
        let k : i < length (links_of plan s') = subst (λ (n : ℕ). i < length (links_of plan n)) one_set h in
        let one-slc : (link_at plan (link_in plan s' i)).slc ≡ (link_at plan (link_in plan s' i')).slc =
        ap (λ (n : ℕ). (link_at plan (link_in plan n i)).slc) (sym one_set) ∙ ap (λ (n : ℕ). (link_at plan n).slc) same
        in (
          one_set,
          split i i'
              (λ less. absurd (omega (arith, sound.slc_order s' i i' less h', one-slc)))
              (λ least. split i' i (λ more. absurd (omega (arith, sound.slc_order s' i' i more k, one-slc))) (λ most. omega arith)),
        )

-- a set without links holds what it has to
pub holds_none : (links : List Link) (those : ℕ) → Holds links those []
holds_none links those =
    record {
      order = λ i j h k. absurd (omega arith);
      table = λ i h. absurd (omega arith);
      present = λ i h. absurd (omega arith);
      belongs = λ i h. absurd (omega arith);
    }

no_links_yet : (those : ℕ) → first_links (get_or (replicate 8 empty_set) those absent_set) ≡ []
no_links_yet those =
    split those 8
    (λ h. ap first_links (get_or-replicate 8 those empty_set absent_set h))
    (λ h. ap first_links (get_or-eq_default (replicate 8 empty_set) absent_set h))

pub empty_sound : Sound empty_plan
empty_sound =
    sound_of empty_plan
    (record {
      eight_sets = refl;
      all_links = refl;
      eight_places = λ those h. ap (λ (set : LinkSet). length set.links) (get_or-replicate 8 those empty_set absent_set h);
      holds = λ those. subst (Holds empty_plan.links those) (sym (no_links_yet those)) (holds_none empty_plan.links those);
    })
    (record {
      all_destinations = refl;
      four_ranks = λ place h. ap (λ (d : Destination). length d.routes) (get_or-replicate 64 place empty_destination absent_destination h);
      ascending = λ i j h k. absurd (omega arith);
    })
