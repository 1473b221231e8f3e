-- The reply to a link that comes into service, from what the code finds one after the other. Assumes nothing.
use mathlib.Core.Path.{◌≡◌, sym, ap, ◌∙◌}
use mathlib.Core.Bool.{Bool, true, false, not, ◌||◌, or-true}
use mathlib.Core.List.{List, [], ◌∷◌}
use Prim.Native.Nat.{ℕ, ◌<◌, ◌≤◌}
use native.Mathlib.Omega.{arith}
use lib.Dec.{eqb, leb}
use borrow.Author.Tests.{le-leb, lt-leb, eq-eqb, ne_eqb}
use Rattle.plan.specs.declared.data.Plan.{Plan}
use Rattle.area_links.specs.declared.LinkRecord.{LinkRecord}
use Rattle.area_links.specs.LinkRecords.{record_at}
use Rattle.replies.specs.Reply.{Row, row, first}
use Rattle.replies.proofs.Rows.{applies, passes}
use Rattle.reports.specs.Report.{short}
use Rattle.lookup.specs.Lookup.{is_link}
use Rattle.changeback_service.specs.InService.{reply_first}

module _ (plan : Plan) (links : List ℕ) (link : ℕ) (reports : List ℕ) where
  -- the rows after the second, and after the first
  abbrev last : List Row
  last = row 5 (not (eqb (record_at links link).state 0)) ∷ []

  abbrev later : List Row
  later = row 2 (not (is_link plan link)) ∷ last

  -- a link past the last
  pub no_such_link : 32 ≤ link → 1 ≡ reply_first plan links link reports
  unfolding reply_first
  no_such_link h = sym (applies 1 (leb 32 link || short reports) later (ap (λ (t : Bool). t || short reports) (le-leb 32 link h)))

  -- an area that is too short
  module _ (is-short : Bool) (s : is-short ≡ short reports) where
    pub area_short : is-short ≡ true → 1 ≡ reply_first plan links link reports
    unfolding reply_first
    area_short e =
        sym
        (applies 1 (leb 32 link || short reports) later
        (ap (λ (t : Bool). leb 32 link || t) (sym s ∙ e) ∙ or-true (leb 32 link)))

    module _ (h : link < 32) (e : is-short ≡ false) where
      form_right : reply_first plan links link reports ≡ first later
      unfolding reply_first
      form_right =
          passes 1 (leb 32 link || short reports) later
          (ap (λ (t : Bool). t || short reports) (lt-leb 32 link h) ∙ sym s ∙ e)

      module _ (configured : Bool) (is : configured ≡ is_link plan link) where
        -- a link that isn't configured
        pub not_configured : configured ≡ false → 2 ≡ reply_first plan links link reports
        not_configured e = sym (form_right ∙ applies 2 (not (is_link plan link)) last (ap not (sym is ∙ e)))

        module _ (there : configured ≡ true) where
          link_there : reply_first plan links link reports ≡ first last
          link_there = form_right ∙ passes 2 (not (is_link plan link)) last (ap not (sym is ∙ there))

          module _ (known : LinkRecord) (read : known ≡ record_at links link) where
            out_is : (said : Bool) → eqb known.state 0 ≡ said → not (eqb (record_at links link).state 0) ≡ not said
            out_is said e = ap (λ (r : LinkRecord). not (eqb r.state 0)) (sym read) ∙ ap not e

            -- one that isn't out
            pub not_out : 0 < known.state → 5 ≡ reply_first plan links link reports
            not_out h =
                sym
                (link_there
                ∙ applies 5 (not (eqb (record_at links link).state 0)) []
                (out_is false (ne_eqb known.state 0 (omega arith))))

            -- and one that is
            pub can_come : known.state ≤ 0 → 0 ≡ reply_first plan links link reports
            unfolding first
            can_come h =
                sym
                (link_there
                ∙ passes 5 (not (eqb (record_at links link).state 0)) [] (out_is true (eq-eqb known.state 0 (omega arith))))
