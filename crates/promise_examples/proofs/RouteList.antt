-- The route list that the paper shows. Assumes nothing.
use mathlib.Core.Path.{◌≡◌, refl}
use mathlib.Core.List.{[], ◌∷◌}
use Rattle.text_decimals.specs.Decimal.{digits_on}
use Rattle.route_list.specs.RouteList.{in_row, lines_from, list_of}
use Rattle.route_choice.specs.Which.{first_serving, some_serves, link_from}
use Rattle.promise_examples.specs.Set.{in_states, one_set}

-- two lines: "dest" and the SLS, and the links 0 and 1 by turns
pub both_open : list_of (in_states (2 ∷ 2 ∷ [])) [] (one_set (0 ∷ 1 ∷ []))
    ≡ 100 ∷ 101 ∷ 115 ∷ 116 ∷ 9 ∷ 48 ∷ 9 ∷ 49 ∷ 9 ∷ 50 ∷ 9 ∷ 51 ∷ 9 ∷ 52 ∷ 9 ∷ 53 ∷ 9 ∷ 54 ∷ 9 ∷ 55 ∷ 9 ∷ 56 ∷ 9 ∷ 57
    ∷ 9 ∷ 49 ∷ 48 ∷ 9 ∷ 49 ∷ 49 ∷ 9 ∷ 49 ∷ 50 ∷ 9 ∷ 49 ∷ 51 ∷ 9 ∷ 49 ∷ 52 ∷ 9 ∷ 49 ∷ 53 ∷ 10
    ∷ 49 ∷ 9 ∷ 48 ∷ 9 ∷ 49 ∷ 9 ∷ 48 ∷ 9 ∷ 49 ∷ 9 ∷ 48 ∷ 9 ∷ 49 ∷ 9 ∷ 48 ∷ 9 ∷ 49
    ∷ 9 ∷ 48 ∷ 9 ∷ 49 ∷ 9 ∷ 48 ∷ 9 ∷ 49 ∷ 9 ∷ 48 ∷ 9 ∷ 49 ∷ 9 ∷ 48 ∷ 9 ∷ 49 ∷ 10 ∷ []
unfolding first_serving some_serves link_from lines_from in_row digits_on
both_open = refl
