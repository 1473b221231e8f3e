-- A plan that a function is handed by value fits its words. Assumes nothing.
use mathlib.Core.Path.{◌≡◌}
use mathlib.Core.List.{List, [], ◌∷◌}
use Prim.Native.Nat.{ℕ, zero, suc, ◌<◌}
use native.Mathlib.Omega.{arith}
use lib.ListN.{length, get_or}
use borrow.Author.Rules.{rules}
use mir.Syntax.{w8}
use mir.Val as machine
use mir.Val.{Val}
use denote.Array.{each}
use denote.Laws.{Is}
use denote.Shadow.{shadow}
use denote.Struct.Declared.{Declared, row}
use Rattle.plan.specs.contracts.data.Plan as plan
use Rattle.plan.specs.contracts.data.LinkSet as linkset
use Rattle.plan.specs.contracts.data.Link as link
use Rattle.plan.specs.contracts.data.Destination as destination
use Rattle.plan.specs.contracts.data.Route as route
use Rattle.plan.proofs.Tables.{unmapped}
use Rattle.plan.specs.declared.data.Plan.{Plan}
use Rattle.plan.specs.declared.data.LinkSet.{LinkSet}
use Rattle.plan.specs.declared.data.Link.{Link}
use Rattle.plan.specs.declared.data.Route.{Route}
use Rattle.plan.specs.declared.data.Destination.{Destination}
use Rattle.plan.specs.Data.{absent_set, absent_link, absent_route, absent_destination}
use Rattle.plan_store.specs.Fits.{SetFits, LinkFits, DestinationFits, Fits}

-- what is known of each value of a type is known of the one at a place of an array
at_place : (T : Declared) (P : T.D → Type 0) → ((x : T.D) (vs : List Val) → Is (row T) x vs → P x)
    → (items : List T.D) (us : List Val) (i : ℕ) (none : T.D) → i < length items
    → shadow (each (row T).Denot (row T).own_val items us) → P (get_or items i none)
at_place T P held [] us i none h s = absurd (omega arith)
at_place T P held (x ∷ items) [] i none h s = absurd s
at_place T P held (x ∷ items) (u ∷ us) zero none h s = held x (u ∷ []) s.0
at_place T P held (x ∷ items) (u ∷ us) (suc i) none h s = at_place T P held items us i none (omega arith) s.1

set_fits : (known : LinkSet) (vs : List Val) → Is (row linkset.the_type) known vs → SetFits known
set_fits known vs p =
    let small : (i : ℕ) → machine.Fits w8 (get_or known.links i 0) = λ i. search rules in
    record { octet = search rules; eight = search rules; octets = λ i. (small i).fits }

link_fits : (known : Link) (vs : List Val) → Is (row link.the_type) known vs → LinkFits known
link_fits known vs p = record { set_octet = search rules; slc_octet = search rules }

route_fits : (known : Route) (vs : List Val) → Is (row route.the_type) known vs → known.set < 256
route_fits known vs p = search rules

destination_fits : (known : Destination) (vs : List Val) → Is (row destination.the_type) known vs → DestinationFits known
destination_fits known vs p =
    let four : length known.routes ≡ 4 = search (rules, unmapped) in
    record {
      four = four;
      octets = λ rank h. at_place route.the_type (λ r. r.set < 256) route_fits known.routes _ rank absent_route (omega arith) p.1.1.1.0.1.1;
    }

pub plan_fits : (known : Plan) (vs : List Val) → Is (row plan.the_type) known vs → Fits known
plan_fits known vs p =
    let tables = p.1.1.1.1.1.1 in
    let eight : length known.sets ≡ 8 = search (rules, unmapped) in
    let all : length known.links ≡ 32 = search (rules, unmapped) in
    let most : length known.destinations ≡ 64 = search (rules, unmapped) in
    record {
      ni_octet = search rules;
      count_octet = search rules;
      eight_sets = eight;
      all_links = all;
      all_destinations = most;
      each_set = λ i h. at_place linkset.the_type SetFits set_fits known.sets _ i absent_set (omega arith) tables.0.1.1;
      each_link = λ i h. at_place link.the_type LinkFits link_fits known.links _ i absent_link (omega arith) tables.1.0.1.1;
      each_destination =
          λ i h. at_place destination.the_type DestinationFits destination_fits known.destinations _ i absent_destination (omega arith) tables.1.1.0.1.1;
    }
