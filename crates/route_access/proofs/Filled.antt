-- A table that is filled place by place, from one with no place set, is in the end the table it has to be.
-- Assumes nothing.
use mathlib.Core.Path.{◌≡◌, refl, sym, ap, ◌∙◌}
use mathlib.Core.Bool.{Bool, false, ◌&&◌}
use mathlib.Core.List.{List}
use Prim.Native.Nat.{ℕ, zero, suc, ◌+◌, ◌<◌}
use native.Mathlib.Omega.{arith}
use lib.Dec.{ltb, eqb}
use lib.ListN.{length, get_or, set, replicate}
use lib.Seq.{get_or-set_same, get_or-set_other, ext_get_or}
use borrow.Author.Tests.{ltb-true, ltb-false, lt-ltb, le-ltb, eqb-true, eqb-false}
use borrow.Table.Steps.{cases}
use Rattle.plan.specs.declared.data.Plan.{Plan}
use Rattle.plan.specs.Find.{given}
use Rattle.route_access.specs.Change.{is_accessible, table_from, accesses_of}

-- a table has its places
pub table_length : (says : ℕ → Bool) (place n : ℕ) → length (table_from says place n) ≡ n
unfolding table_from
table_length says place zero = refl
table_length says place (suc n) = ap suc (table_length says (suc place) n)

-- and says at each what it has to
pub table_at : (says : ℕ → Bool) (place n i : ℕ) → i < n → get_or (table_from says place n) i false ≡ says (place + i)
unfolding table_from
table_at says place zero i h = absurd (omega arith)
table_at says place (suc n) zero h = ap says (omega arith)
table_at says place (suc n) (suc i) h = table_at says (suc place) n i (omega arith) ∙ ap says (omega arith)

-- counted from its first place
pub table_first : (says : ℕ → Bool) (n i : ℕ) → i < n → get_or (table_from says 0 n) i false ≡ says i
table_first says n i h = table_at says 0 n i h ∙ ap says (omega arith)

-- so far no place is set
none_set : (n k : ℕ) → get_or (replicate n false) k false ≡ false
none_set zero k = refl
none_set (suc n) zero = refl
none_set (suc n) (suc k) = none_set n k

pub filled_none : (says : ℕ → Bool) (n k : ℕ) → get_or (replicate n false) k false ≡ (ltb k 0 && says k)
filled_none says n k = none_set n k ∙ ap (λ (t : Bool). t && says k) (sym (le-ltb k 0 (omega arith)))

-- one place more
pub filled_next : (says : ℕ → Bool) (table : List Bool) (d : ℕ) (flag : Bool) → d < length table → flag ≡ says d
    → ((k : ℕ) → get_or table k false ≡ (ltb k d && says k))
    → (k : ℕ) → get_or (set table d flag) k false ≡ (ltb k (d + 1) && says k)
filled_next says table d flag inside e filled k =
    cases (eqb k d)
    (λ t.
    let here : k ≡ d = eqb-true k d t in
    ap (λ (n : ℕ). get_or (set table d flag) n false) here
    ∙ get_or-set_same table d flag false inside
    ∙ e
    ∙ ap says (sym here)
    ∙ sym (ap (λ (b : Bool). b && says k) (lt-ltb k (d + 1) (omega arith))))
    (λ t.
    let other = eqb-false k d t in
    let tests : ltb k (d + 1) ≡ ltb k d =
    cases (ltb k d)
    (λ u. let below = ltb-true k d u in lt-ltb k (d + 1) (omega arith) ∙ sym u)
    (λ u. let above = ltb-false k d u in le-ltb k (d + 1) (omega (arith, other)) ∙ sym u)
    in
    get_or-set_other table d k flag false other ∙ filled k ∙ sym (ap (λ (b : Bool). b && says k) tests))

-- with all that are given passed it is the whole table
pub filled_all : (plan : Plan) (links marks : List ℕ) (table : List Bool) (d : ℕ) → d ≡ given plan → length table ≡ 64
    → ((k : ℕ) → get_or table k false ≡ (ltb k d && is_accessible plan links marks k))
    → table ≡ accesses_of plan links marks
filled_all plan links marks table d all long filled =
    let says : ℕ → Bool = λ (k : ℕ). ltb k (given plan) && is_accessible plan links marks k in
    ext_get_or false table (accesses_of plan links marks) (long ∙ sym (table_length says 0 64))
    (λ i h.
    filled i
    ∙ ap (λ (n : ℕ). ltb i n && is_accessible plan links marks i) all
    ∙ sym (table_first says 64 i (omega (arith, long, h))))

-- and says of each that is given whether it is accessible
pub says_each : (plan : Plan) (links marks : List ℕ) (table : List Bool) → table ≡ accesses_of plan links marks
    → (d : ℕ) → d < given plan → get_or table d false ≡ is_accessible plan links marks d
says_each plan links marks table whole d h =
    let says : ℕ → Bool = λ (k : ℕ). ltb k (given plan) && is_accessible plan links marks k in
    ap (λ (t : List Bool). get_or t d false) whole
    ∙ table_first says 64 d (omega arith)
    ∙ ap (λ (b : Bool). b && is_accessible plan links marks d) (lt-ltb d (given plan) h)
