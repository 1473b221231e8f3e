-- No second outcome: two outcomes that satisfy the same contract are equal, the answer and everything that was lent.
-- Assumes nothing.
use mathlib.Core.Path.{◌≡◌, sym, ap, ◌∙◌}
use Rattle.replies.specs.declared.Answer.{Answer}
use Rattle.replies.specs.Areas.{Areas, Outcome, outcome, Leaves}
use Rattle.replies.proofs.Judging.{whole}
use Rattle.node.specs.Memory.{Memory, memory, Result, Gives}

-- where the contract is an equation
pub equation_once : {A : Type 0} {x y given : A} → x ≡ given → y ≡ given → x ≡ y
equation_once one other = one ∙ sym other

-- what an event leaves is its outcome
is_outcome : (o : Outcome) (r : Answer) (a : Areas) → Leaves o r a → outcome r a ≡ o
is_outcome o r a left = whole o r a.links a.marks a.spans a.rings a.rows a.arrivals a.reports left

-- an event: the answer and all seven areas
pub leaves_once : {o : Outcome} {r r' : Answer} {a a' : Areas} → Leaves o r a → Leaves o r' a' → (r ≡ r') × (a ≡ a')
leaves_once {o} {r} {r'} {a} {a'} one other =
    let same : outcome r a ≡ outcome r' a' = equation_once (is_outcome o r a one) (is_outcome o r' a' other) in
    (ap (λ (x : Outcome). x.answer) same, ap (λ (x : Outcome). x.after) same)

-- what a call gives in the areas, as an event leaves it
areas_left : (expected : Result) (r : Answer) (m : Memory) → Gives expected r m
    → Leaves (outcome expected.answer expected.after.areas) r m.areas
areas_left expected r m gives =
    record {
      answers = gives.answers;
      in_links = gives.in_links;
      in_marks = gives.in_marks;
      in_spans = gives.in_spans;
      in_rings = gives.in_rings;
      in_rows = gives.in_rows;
      in_arrivals = gives.in_arrivals;
      in_reports = gives.in_reports;
    }

-- a call: the answer, all areas, the octets and the output
pub gives_once : {expected : Result} {r r' : Answer} {m m' : Memory} → Gives expected r m → Gives expected r' m' → (r ≡ r') × (m ≡ m')
gives_once {expected} {r} {r'} {m} {m'} one other =
    let both = leaves_once (areas_left expected r m one) (areas_left expected r' m' other) in
    let areas-same : m.areas ≡ m'.areas = both.1 in
    let octets-same : m.octets ≡ m'.octets = equation_once one.in_octets other.in_octets in
    let out-same : m.out ≡ m'.out = equation_once one.in_out other.in_out in
    let all : memory m.areas m.octets m.out ≡ memory m'.areas m'.octets m'.out = cc in
    (both.0, all)
