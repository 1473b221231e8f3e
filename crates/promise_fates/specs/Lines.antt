-- The lines of one kind among those that are told of a call (docs/FORMATS.md, "Fates"), in the order in which they stand there.
use Rattle.std.specs.Prelude.{ℕ, cond, ◌&&◌, List, [], ◌∷◌, ◌++◌, eqb}
use Rattle.fate_lines.specs.declared.Fate.{Fate}
use Rattle.fate_lines.specs.declared.Fate.TheVariants.{Unchanged, Queued, Sent, Acknowledged, Retired, Moved}

-- what is read off each of some, first to last
unfoldable pub picked : {A B : Type 0} → (A → List B) → List A → List B
picked read [] = []
picked read (one ∷ later) = read one ++ picked read later

-- `N queued ARRIVAL LINK`
abbrev pub queued_line : Fate → List Fate
queued_line Unchanged = []
queued_line (Queued arrival link heading) = Queued arrival link heading ∷ []
queued_line (Sent arrival link fsn) = []
queued_line (Acknowledged arrival link) = []
queued_line (Retired arrival link) = []
queued_line (Moved arrival from to) = []

-- `N sent ARRIVAL LINK FSN`
abbrev pub sent_line : Fate → List Fate
sent_line Unchanged = []
sent_line (Queued arrival link heading) = []
sent_line (Sent arrival link fsn) = Sent arrival link fsn ∷ []
sent_line (Acknowledged arrival link) = []
sent_line (Retired arrival link) = []
sent_line (Moved arrival from to) = []

-- `N acknowledged ARRIVAL LINK`
abbrev pub acknowledged_line : Fate → List Fate
acknowledged_line Unchanged = []
acknowledged_line (Queued arrival link heading) = []
acknowledged_line (Sent arrival link fsn) = []
acknowledged_line (Acknowledged arrival link) = Acknowledged arrival link ∷ []
acknowledged_line (Retired arrival link) = []
acknowledged_line (Moved arrival from to) = []

-- `N retired ARRIVAL LINK`
abbrev pub retired_line : Fate → List Fate
retired_line Unchanged = []
retired_line (Queued arrival link heading) = []
retired_line (Sent arrival link fsn) = []
retired_line (Acknowledged arrival link) = []
retired_line (Retired arrival link) = Retired arrival link ∷ []
retired_line (Moved arrival from to) = []

-- `N moved ARRIVAL FROM TO`, of one queue and to one queue: the arrival numbers
abbrev pub moved_line : ℕ → ℕ → Fate → List ℕ
moved_line from to Unchanged = []
moved_line from to (Queued arrival link heading) = []
moved_line from to (Sent arrival link fsn) = []
moved_line from to (Acknowledged arrival link) = []
moved_line from to (Retired arrival link) = []
moved_line from to (Moved arrival left joined) = cond (eqb left from && eqb joined to) (arrival ∷ []) []
