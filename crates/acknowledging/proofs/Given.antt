-- "Given when": each reply of an acknowledgement with its exact condition. One of the five always holds, so there is no other reply.
-- Assumes nothing.
use Prim.Native.Nat.{ℕ}
use mathlib.Core.Bool.{Bool, true, false, not, ◌&&◌}
use mathlib.Core.List.{List, [], ◌∷◌}
use mathlib.Core.Path.{◌≡◌, refl}
use lib.Dec.{eqb}
use Rattle.plan.specs.declared.data.Plan.{Plan}
use Rattle.replies.specs.Reply.{row, first}
use Rattle.lookup.specs.Lookup.{is_link}
use Rattle.acknowledging.specs.Acknowledge.{out_of_range, link_open, b_in_range, reply_of}

-- a reply, by whether an argument is out of range, the link is configured, it is open, and the number is in range
pub record GivenWhen (reply : ℕ) (out known opened near : Bool) : Type 0 where
  pub one : eqb reply 1 ≡ out
  pub two : eqb reply 2 ≡ (not out && not known)
  pub five : eqb reply 5 ≡ (not out && (known && not opened))
  pub six : eqb reply 6 ≡ (not out && (known && (opened && not near)))
  pub none : eqb reply 0 ≡ (not out && (known && (opened && near)))

-- the rows in order, whatever their tests say
in_order : (out known opened near : Bool) → GivenWhen (first (row 1 out ∷ row 2 (not known) ∷ row 5 (not opened) ∷ row 6 (not near) ∷ [])) out known opened near
unfolding first
in_order true known opened near = record { one = refl; two = refl; five = refl; six = refl; none = refl }
in_order false false opened near = record { one = refl; two = refl; five = refl; six = refl; none = refl }
in_order false true false near = record { one = refl; two = refl; five = refl; six = refl; none = refl }
in_order false true true false = record { one = refl; two = refl; five = refl; six = refl; none = refl }
in_order false true true true = record { one = refl; two = refl; five = refl; six = refl; none = refl }

pub given_when : (plan : Plan) (links : List ℕ) (link b : ℕ) → GivenWhen (reply_of plan links link b) (out_of_range link b) (is_link plan link) (link_open links link) (b_in_range links link b)
unfolding reply_of
given_when plan links link b =
    in_order (out_of_range link b) (is_link plan link) (link_open links link) (b_in_range links link b)
