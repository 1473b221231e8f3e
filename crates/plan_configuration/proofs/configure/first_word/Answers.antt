-- `plan_configuration::configure::first_word` meets its contract: the first field is what stands before the first tab.
-- Assumes nothing.
use mathlib.Core.Path.{sym, ap, ◌∙◌}
use mathlib.Core.List.{List, []}
use Prim.Native.Nat.{ℕ}
use lib.ListN.{get_or}
use lib.Seq.{slice}
use Rattle.plan_keywords.specs.StatementWords.{word_of}
use Rattle.text.specs.Part.{tab}
use Rattle.text.specs.declared.part.Part.{Part}
use Rattle.text.proofs.Parts.{first_part}
use Rattle.plan_configuration.proofs.configure.first_word.Goals as goal

pub returns : goal.returns
returns c =
    let a = c.args in
    let first = c.field-first in
    c.read_word.ensures
    ∙ ap word_of
    (c.between.ensures
    ∙ ap (λ (p : Part). slice a.at p.end a.text.now) first.ensures
    ∙ sym (ap (λ (l : List (List ℕ)). get_or l 0 []) (first_part tab a.text.now a.at a.to)))
