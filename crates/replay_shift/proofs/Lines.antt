-- The lines of a text one after the other: the first of them, what is left behind it, and when a run over them stops. Assumes nothing.
use Rattle.std.proofs.Common.{◌≡◌, ℕ, ◌+◌, ◌-◌, ◌<◌, ◌≤◌, Bool, true, false, cond, ltb, List, [], ◌∷◌, length, sym, refl, ap, ◌∙◌, subst, ap₂, arith, length-drop, length-take, ltb-false, ltb-true, le-ltb}
use mathlib.Core.Bool.{false≢true}
use lib.Seq.{slice}
use borrow.Table.Steps.{cases}
use Rattle.plan.specs.declared.data.Plan.{Plan}
use Rattle.text.specs.Index.{index_of}
use Rattle.text.specs.declared.part.Part.{Part}
use Rattle.text.specs.Part.{line_at, lf}
use Rattle.text.proofs.Parts.{first_part, cut_length, next_onward, next_within}
use Rattle.replay_answers.specs.declared.view.View.{View}
use Rattle.replay_shift.specs.Shift.{Desk, ran_lines, ran_line, goes_on, lines_from}

module _ (text : List ℕ) (at : ℕ) (part : Part) (here : part ≡ line_at text at) where
  -- the line at a place, and where LF ends it the lines behind it
  pub lines_are : lines_from text at ≡ slice at part.end text ∷ cond part.closed (lines_from text part.next) []
  lines_are =
      subst
      (λ (p : Part). lines_from text at ≡ slice at p.end text ∷ cond p.closed (lines_from text p.next) [])
      (sym here)
      (first_part lf text at (length text))

  -- a line with its LF is as long as the way to the next
  pub past_line : part.closed ≡ true → at + length (slice at part.end text) + 1 ≡ part.next
  past_line e =
      let n = index_of lf (slice at (length text) text) in
      let there : (line_at text at).closed ≡ true = sym (ap (λ (q : Part). q.closed) here) ∙ e in
      let end : part.end ≡ at + n = ap (λ (q : Part). q.end) here in
      let next : part.next ≡ at + n + 1 = ap (λ (q : Part). q.next) here ∙ ap (λ (t : Bool). cond t (at + n + 1) (at + n)) there in
      let inside : n < length (slice at (length text) text) = ltb-true _ _ there in
      let long : length (slice at (at + n) text) ≡ n = simp (length-drop, length-take) (omega (arith, inside, cut_length at (length text) text)) in
      omega (arith, next, long, ap (λ (to : ℕ). length (slice at to text)) end)

  module _ (plan : Plan) (view : View) (d : Desk) where
    -- with no LF there is no line to run
    pub stops_open : part.closed ≡ false → ran_lines plan view (lines_from text at) d ≡ d
    unfolding ran_lines
    stops_open e = ap (λ (lines : List (List ℕ)). ran_lines plan view lines d) (lines_are ∙ ap (λ (t : Bool). slice at part.end text ∷ cond t (lines_from text part.next) []) e)

    -- a run that stops runs nothing more
    pub stops_desk : (lines : List (List ℕ)) → goes_on d ≡ false → ran_lines plan view lines d ≡ d
    unfolding ran_lines
    stops_desk [] e = refl
    stops_desk (last ∷ []) e = refl
    stops_desk (line ∷ next ∷ more) e = simp e

    line_on : (line : List ℕ) (more : List (List ℕ)) (next : List ℕ) (rest : List (List ℕ)) → more ≡ next ∷ rest
        → ran_lines plan view (line ∷ more) d ≡ cond (goes_on d) (ran_lines plan view more (ran_line plan view line (d.at + length line + 1) d)) d
    unfolding ran_lines
    line_on line more next rest e =
        subst
        (λ (m : List (List ℕ)). ran_lines plan view (line ∷ m) d ≡ cond (goes_on d) (ran_lines plan view m (ran_line plan view line (d.at + length line + 1) d)) d)
        (sym e)
        refl

    -- the next line is run, and the lines behind it are left
    pub goes : at ≡ d.at → part.closed ≡ true → goes_on d ≡ true
        → ran_lines plan view (lines_from text at) d ≡ ran_lines plan view (lines_from text part.next) (ran_line plan view (slice at part.end text) part.next d)
    goes place e on =
        let line = slice at part.end text in
        let more = lines_from text part.next in
        let next : d.at + length line + 1 ≡ part.next = omega (arith, place, past_line e) in
        ap (λ (lines : List (List ℕ)). ran_lines plan view lines d) (lines_are ∙ ap (λ (t : Bool). line ∷ cond t more []) e)
        ∙ line_on line more _ _ (first_part lf text part.next (length text))
        ∙ ap₂ (λ (t : Bool) (n : ℕ). cond t (ran_lines plan view more (ran_line plan view line n d)) d) on next

-- from the end of the text on there is no line
none_behind : (text : List ℕ) (at : ℕ) → length text ≤ at → (line_at text at).closed ≡ false
none_behind text at h =
    let part = slice at (length text) text in
    le-ltb (index_of lf part) (length part) (omega (arith, cut_length at (length text) text))

-- past a line that LF ends, less of the text is left
pub less_left :
    (text : List ℕ) (at : ℕ) (p : Part) → p ≡ line_at text at → p.closed ≡ true → length text - p.next < length text - at
less_left text at p e closed =
    let there : (line_at text at).closed ≡ true = sym (ap (λ (q : Part). q.closed) e) ∙ closed in
    let next : p.next ≡ (line_at text at).next = ap (λ (q : Part). q.next) e in
    cases (ltb at (length text))
    (λ h.
    let inside : at < length text = ltb-true _ _ h in
    let on = next_onward lf text at (length text) (omega arith) (omega arith) there in
    let within = next_within lf text at (length text) (omega arith) (omega arith) in
    omega (arith, next, on, within))
    (λ h. absurd (false≢true (sym (none_behind text at (ltb-false _ _ h)) ∙ there)))
