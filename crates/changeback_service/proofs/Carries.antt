-- A link whose record is stored with a state that isn't out carries, and all others as before: so it is back where it was out, and
-- an open one stands for one that waits. Assumes nothing.
use mathlib.Core.Path.{◌≡◌, sym, ap, fun_ext, ◌∙◌}
use mathlib.Core.Bool.{Bool, true, false, not, ◌&&◌, ◌||◌, and-false}
use mathlib.Core.List.{List, [], ◌∷◌}
use Prim.Native.Nat.{ℕ, ◌%◌, ◌<◌}
use native.Mathlib.Nat.{add-zero}
use native.Mathlib.Omega.{arith}
use lib.Dec.{eqb, ltb}
use lib.ListN.{length}
use borrow.Author.Tests.{lt-ltb, ne_eqb}
use borrow.Table.Steps.{cases}
use Rattle.plan.specs.declared.data.Plan.{Plan}
use Rattle.plan.proofs.Split.{alike}
use Rattle.area_links.specs.declared.LinkRecord.{LinkRecord}
use Rattle.area_flags.specs.Flags.{word}
use Rattle.area_links.specs.LinkRecords.{record_at, with_record}
use Rattle.area_rows.proofs.Laws.{row_same, row_other}
use Rattle.route_choice.specs.Which.{none, chosen}
use Rattle.route_serving.specs.State.{state_of, serves, is_marked}
use Rattle.route_choice.specs.Chosen.{Back}
use Rattle.route_ways.specs.Way.{for_users, link_for, current_link}
use Rattle.changeback_pairs.specs.declared.Sources.{Sources}
use Rattle.changeback_service.specs.InService.{declares, comes_as}

-- the state of a link, as the chooser reads it and as its record says it
pub state_read : (links : List ℕ) (link : ℕ) → state_of links link ≡ (record_at links link).state
state_read links link = cases (ltb link 32) (λ e. simp (e, add-zero)) (λ e. simp e)

-- whether a link serves, by its state
serves_by : (links links' : List ℕ) (link : ℕ) → state_of links link ≡ state_of links' link
    → serves links for_users link ≡ serves links' for_users link
serves_by links links' link e = ap (λ (n : ℕ). ltb link 32 && (not (eqb link none) && ltb 0 n)) e

module _ (links : List ℕ) (link : ℕ) (size : length links ≡ 256) (h : link < 32) where
  module _ (known : LinkRecord) where
    abbrev stored : List ℕ
    stored = with_record links link known

    abbrev words : List ℕ
    words =
        known.state
        ∷ known.acknowledged
        ∷ known.received
        ∷ known.sent
        ∷ known.timer
        ∷ word known.t3
        ∷ known.code
        ∷ []

    serves_there : 0 < known.state % 4 → serves stored for_users link ≡ true
    serves_there carrying =
        let state : state_of stored link ≡ known.state % 4 =
        state_read stored link ∙ ap (λ (n : ℕ). n % 4) (row_same 32 8 links link words (omega arith) h size 0 (omega arith))
        in
        let carries : ltb 0 (state_of stored link) ≡ true = ap (λ (n : ℕ). ltb 0 n) state ∙ lt-ltb 0 (known.state % 4) carrying in
        ap (λ (t : Bool). t && (not (eqb link none) && ltb 0 (state_of stored link))) (lt-ltb link 32 h)
        ∙ ap (λ (t : Bool). not t && ltb 0 (state_of stored link)) (ne_eqb link none (omega arith))
        ∙ carries

    serves_others : (other : ℕ) → (other ≡ link → ⊥) → serves stored for_users other ≡ serves links for_users other
    serves_others other apart =
        serves_by stored links other
        (state_read stored other
        ∙ ap (λ (n : ℕ). n % 4) (row_other 32 8 links link words (omega arith) other apart 0 (omega arith))
        ∙ sym (state_read links other))

    -- a link that was out serves again
    pub comes_back : 0 < known.state % 4 → (record_at links link).state ≡ 0
        → Back (serves links for_users) (serves stored for_users) link
    comes_back carrying out =
        let gone : ltb 0 (state_of links link) ≡ false = ap (λ (n : ℕ). ltb 0 n) (state_read links link ∙ out) in
        record {
          was_out =
              ap (λ (t : Bool). ltb link 32 && (not (eqb link none) && t)) gone
              ∙ ap (λ (t : Bool). ltb link 32 && t) (and-false (not (eqb link none)))
              ∙ and-false (ltb link 32);
          serves_again = serves_there carrying;
          others = serves_others;
        }

  -- whichever state it carries in, the rule yields the same links
  pub same_way : (plan : Plan) (known known' : LinkRecord) → 0 < known.state % 4 → 0 < known'.state % 4
      → (marks : List ℕ) (destination sls : ℕ)
      → current_link plan (with_record links link known) marks destination sls
      ≡ current_link plan (with_record links link known') marks destination sls
  unfolding link_for
  same_way plan known known' c c' marks destination sls =
      ap (λ (f : ℕ → Bool). chosen f (is_marked marks destination) plan destination sls)
      (fun_ext
      (λ (other : ℕ).
      alike other link
      (λ same.
      ap (λ (l : ℕ). serves (with_record links link known) for_users l) same
      ∙ serves_there known c
      ∙ sym (serves_there known' c')
      ∙ ap (λ (l : ℕ). serves (with_record links link known') for_users l) (sym same))
      (λ apart. serves_others known other apart ∙ sym (serves_others known' other apart))))

-- a link that comes in carries
pub comes_carrying : (from : Sources) → 0 < (comes_as from).state % 4
comes_carrying from = cases (declares from || from.other) (λ e. simp e (omega arith)) (λ e. simp e (omega arith))
