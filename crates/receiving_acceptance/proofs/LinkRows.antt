-- The reply to a received message row by row: 1 and 2, then 5 by the link's state and 6 by the number.
-- Assumes nothing.
use Prim.Native.Nat.{ℕ, ◌≤◌, ◌<◌}
use mathlib.Core.Bool.{Bool, true, false, not, ◌||◌}
use mathlib.Core.List.{List, [], ◌∷◌}
use mathlib.Core.Path.{◌≡◌, sym, ap, ◌∙◌}
use lib.Dec.{eqb, leb}
use borrow.Author.Tests.{le-leb, lt-leb, eq-eqb, ne_eqb}
use borrow.Table.Steps.{cases}
use Rattle.plan.specs.declared.data.Plan.{Plan}
use Rattle.counting.specs.Counting.{next}
use Rattle.replies.specs.Reply.{row, first}
use Rattle.replies.proofs.Rows.{applies, passes}
use Rattle.reports.specs.Report.{short}
use Rattle.lookup.specs.Lookup.{is_link}
use Rattle.area_links.specs.declared.LinkRecord.{LinkRecord}
use Rattle.area_links.specs.LinkRecords.{record_at}
use Rattle.receiving_acceptance.specs.Acceptance.{reply_of}

-- open or waiting
abbrev pub takes : LinkRecord → Bool
takes known = eqb known.state 2 || eqb known.state 1

-- the last two rows, of a link that is known
abbrev pub last_rows : LinkRecord → ℕ → ℕ
last_rows known fsn = first (row 5 (not (takes known)) ∷ row 6 (not (eqb fsn (next 128 known.received))) ∷ [])

module _ (plan : Plan) (links : List ℕ) (link fsn : ℕ) (reports : List ℕ) where
  abbrev out_of_range : Bool
  out_of_range = leb 32 link || (leb 128 fsn || short reports)

  first_row : out_of_range ≡ true → 1 ≡ reply_of plan links link fsn reports
  unfolding reply_of
  first_row out = sym (applies 1 out_of_range _ out)

  pub link_out_of_range : 32 ≤ link → 1 ≡ reply_of plan links link fsn reports
  link_out_of_range past = first_row (simp (le-leb 32 link past))

  module _ (link_within : link < 32) where
    pub number_out_of_range : 128 ≤ fsn → 1 ≡ reply_of plan links link fsn reports
    number_out_of_range past = first_row (simp (lt-leb 32 link link_within, le-leb 128 fsn past))

    -- whether the report area is too short, as a function told
    module _ (number-within : fsn < 128) (lacks : Bool) (measured : lacks ≡ short reports) where
      range_is : out_of_range ≡ lacks
      range_is =
          ap (λ (t : Bool). t || (leb 128 fsn || short reports)) (lt-leb 32 link link_within)
          ∙ ap (λ (t : Bool). t || short reports) (lt-leb 128 fsn number-within)
          ∙ sym measured

      pub area_too_short : lacks ≡ true → 1 ≡ reply_of plan links link fsn reports
      area_too_short e = first_row (range_is ∙ e)

      -- and whether the link is configured
      module _ (enough : lacks ≡ false) (there : Bool) (looked : there ≡ is_link plan link) where
        pub not_configured : not there ≡ true → 2 ≡ reply_of plan links link fsn reports
        unfolding reply_of
        not_configured missing =
            sym (passes 1 out_of_range _ (range_is ∙ enough) ∙ applies 2 (not (is_link plan link)) _ (ap not (sym looked) ∙ missing))

        -- the rows left once the record is read
        pub configured : not there ≡ false → (known : LinkRecord) → known ≡ record_at links link
            → reply_of plan links link fsn reports ≡ last_rows known fsn
        unfolding reply_of
        configured is known read =
            passes 1 out_of_range _ (range_is ∙ enough)
            ∙ passes 2 (not (is_link plan link)) _ (ap not (sym looked) ∙ is)
            ∙ ap (λ (k : LinkRecord). last_rows k fsn) (sym read)

-- the reply that the last two rows give
module _ (known : LinkRecord) (fsn reply : ℕ) (is : reply ≡ last_rows known fsn) where
  pub takes_none : (known.state ≡ 2 → ⊥) → eqb known.state 1 ≡ false → 5 ≡ reply
  takes_none not-open not-waiting =
      sym
      (is
      ∙ applies 5 (not (takes known)) _ (simp (ne_eqb known.state 2 not-open, not-waiting)))

  -- an open or waiting link, and the number after its last, as it was counted
  module _ (fits : takes known ≡ true) (after : ℕ) (counted : after ≡ next 128 known.received) where
    by_number : reply ≡ first (row 6 (not (eqb fsn after)) ∷ [])
    by_number =
        is
        ∙ passes 5 (not (takes known)) _ (ap not fits)
        ∙ ap (λ (n : ℕ). first (row 6 (not (eqb fsn n)) ∷ [])) (sym counted)

    pub another_number : (fsn ≡ after → ⊥) → 6 ≡ reply
    another_number differs = sym (by_number ∙ applies 6 (not (eqb fsn after)) [] (ap not (ne_eqb fsn after differs)))

    pub next_number : fsn ≡ after → 0 ≡ reply
    unfolding first
    next_number same = sym (by_number ∙ passes 6 (not (eqb fsn after)) [] (ap not (eq-eqb fsn after same)))

-- open, or waiting
pub open_takes : (known : LinkRecord) → known.state ≡ 2 → takes known ≡ true
open_takes known e = ap (λ (t : Bool). t || eqb known.state 1) (eq-eqb known.state 2 e)

pub waiting_takes : (known : LinkRecord) → eqb known.state 1 ≡ true → takes known ≡ true
waiting_takes known e = cases (eqb known.state 2) (λ o. simp o) (λ o. simp (o, e))
