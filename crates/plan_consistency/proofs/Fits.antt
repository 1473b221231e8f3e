-- What a consistent plan is made of, table by table: a link in its set, sets apart, a destination with its routes. Assumes nothing.
use mathlib.Core.Path.{◌≡◌, refl, sym, ap, subst, ◌∙◌}
use mathlib.Core.Bool.{true, false, false≢true}
use mathlib.Core.List.{List}
use Prim.Native.Nat.{ℕ, ◌<◌}
use native.Mathlib.Omega.{arith}
use lib.ListN.{length, get_or, replicate, length-replicate, get_or-replicate, get_or-eq_default}
use Rattle.plan.specs.declared.data.Plan.{Plan}
use Rattle.plan.specs.declared.data.Link.{Link}
use Rattle.plan.specs.declared.data.LinkSet.{LinkSet}
use Rattle.plan.specs.declared.data.Destination.{Destination}
use Rattle.plan.specs.Data.{absent_set, absent_link, absent_route, empty_set, empty_plan, set_at, link_at, destination_at}
use Rattle.plan.specs.Find.{given}
use Rattle.plan.proofs.Sound.{first_links}
use Rattle.plan.proofs.Split.{split}

-- a link stands in a set that is given
pub record InSet (those : LinkSet) (link : ℕ) : Type 0 where
  pub is_given : those.given ≡ true
  pub place : ℕ
  pub within : place < length (first_links those)
  pub there : get_or (first_links those) place 0 ≡ link

-- sets with adjacent codes that are no two the same, and none our own
pub record Apart (code : ℕ) (sets : List LinkSet) : Type 0 where
  pub once : (s o : ℕ) → (get_or sets s absent_set).given ≡ true → (get_or sets o absent_set).given ≡ true
      → (get_or sets s absent_set).adjacent ≡ (get_or sets o absent_set).adjacent → s ≡ o
  pub not_ours : (s : ℕ) → (get_or sets s absent_set).given ≡ true → (get_or sets s absent_set).adjacent ≡ code → ⊥

-- a destination that isn't us, with routes by given sets, no two by the same
pub record Served (code : ℕ) (sets : List LinkSet) (d : Destination) : Type 0 where
  pub other : d.code ≡ code → ⊥
  pub by_given : (rank : ℕ) → (get_or d.routes rank absent_route).given ≡ true → (get_or sets (get_or d.routes rank absent_route).set absent_set).given ≡ true
  pub by_once : (rank second : ℕ) → (get_or d.routes rank absent_route).given ≡ true → (get_or d.routes second absent_route).given ≡ true
      → (get_or d.routes rank absent_route).set ≡ (get_or d.routes second absent_route).set → rank ≡ second

pub record Fits (plan : Plan) : Type 0 where
  pub node_first : plan.given ≡ false → plan ≡ empty_plan
  pub standing : (link : ℕ) → (link_at plan link).given ≡ true → InSet (set_at plan (link_at plan link).set) link
  pub apart : Apart plan.code plan.sets
  pub served : (place : ℕ) → place < given plan → Served plan.code plan.sets (destination_at plan place)

-- what stands at a place where all are the same, within the table or past it
pub same_all : {A : Type 0} (n : ℕ) (value none : A) (P : A → Type 0) → P value → P none → (i : ℕ) → P (get_or (replicate n value) i none)
same_all n value none P here past i =
    split i n
    (λ h. subst P (sym (get_or-replicate n i value none h)) here)
    (λ h. subst P (sym (get_or-eq_default (replicate n value) none {n = i} (omega (arith, length-replicate n value)))) past)

-- with nothing given but a node, everything fits
pub node_alone : (plan : Plan) → plan.sets ≡ empty_plan.sets → plan.links ≡ empty_plan.links → plan.count ≡ 0
    → (plan.given ≡ false → plan ≡ empty_plan) → Fits plan
node_alone plan no-sets no_links none node_first =
    let no_set : (s : ℕ) → (set_at plan s).given ≡ true → ⊥ =
    λ s e. false≢true (sym (ap (λ (sets : List LinkSet). (get_or sets s absent_set).given) no-sets ∙ same_all 8 empty_set absent_set (λ those. those.given ≡ false) refl refl s) ∙ e)
    in
    let no_link : (l : ℕ) → (link_at plan l).given ≡ true → ⊥ =
    λ l e. false≢true (sym (ap (λ (links : List Link). (get_or links l absent_link).given) no_links ∙ same_all 32 absent_link absent_link (λ link. link.given ≡ false) refl refl l) ∙ e)
    in
    record {
      node_first = node_first;
      standing = λ link e. absurd (no_link link e);
      apart = record { once = λ s o e f same. absurd (no_set s e); not_ours = λ s e same. no_set s e };
      served = λ place h. absurd (omega arith);
    }

pub empty_fits : Fits empty_plan
empty_fits = node_alone empty_plan refl refl refl (λ e. refl)

-- sets that are still given still serve
pub serves_still : (code : ℕ) (sets more : List LinkSet) → ((s : ℕ) → (get_or sets s absent_set).given ≡ true → (get_or more s absent_set).given ≡ true)
    → (d : Destination) → Served code sets d → Served code more d
serves_still code sets more still d served =
    record { other = served.other; by_given = λ rank e. still (get_or d.routes rank absent_route).set (served.by_given rank e); by_once = served.by_once }
