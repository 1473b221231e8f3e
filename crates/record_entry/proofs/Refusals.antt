-- A line that says something is of a kind that we know, and one that can't be read leaves the area as it was.
-- Assumes nothing.
use mathlib.Core.Path.{◌≡◌, refl, ap, subst}
use mathlib.Core.Bool.{Bool, true, false, cond}
use mathlib.Core.List.{List, [], ◌++◌}
use Prim.Native.Nat.{ℕ, ◌<◌}
use lib.Dec.{lit<}
use lib.ListN.{length, drop, get_or}
use Rattle.text.specs.Part.{split, tab}
use Rattle.text_hex.specs.Hex.{readable, octets_of}
use Rattle.record_kinds.specs.declared.Kind.{Kind}
use Rattle.record_kinds.specs.declared.Kind.TheVariants.{Service, Failure, Send, Acknowledged, Received, Host, Routes, T1, T2, T3, T4, T6, T8, T10}
use Rattle.record_kinds.specs.Kind.{form_of, fields_of}
use Rattle.record_entry.specs.declared.Said.{Said}
use Rattle.std.specs.Prelude.{Option, Some, None}
use Rattle.record_entry.specs.Entry.{number_in, octets_in, says_by, kept_with, fitting, read_as, kept_as, kind_in, read_entry, area_after}

-- the lines of each kind have fields
pub has_fields : (kind : Kind) → 0 < fields_of (form_of kind)
has_fields Service = lit< tt
has_fields Failure = lit< tt
has_fields Send = lit< tt
has_fields Acknowledged = lit< tt
has_fields Received = lit< tt
has_fields Host = lit< tt
has_fields Routes = lit< tt
has_fields T1 = lit< tt
has_fields T2 = lit< tt
has_fields T3 = lit< tt
has_fields T4 = lit< tt
has_fields T6 = lit< tt
has_fields T8 = lit< tt
has_fields T10 = lit< tt

-- what is said is said by a kind whose lines have fields
abbrev pub Known : Option Said → Type 0
Known (Some said) = 0 < fields_of (form_of said.kind)
Known None = Unit

known_in : (entry : Option Said) → Known entry
known_in (Some said) = has_fields said.kind
known_in None = tt

-- no line says anything of an unknown kind
pub known : (area line : List ℕ) → Known (read_entry area line)
known area line = known_in (read_entry area line)

-- nor does one whose first field is no kind's word
pub unknown : (area line : List ℕ) → kind_in (split tab line) ≡ None → read_entry area line ≡ None
unknown area line e = ap (λ (k : Option Kind). read_as k area (split tab line)) e

-- where something is said, an entry isn't unreadable
abbrev Spoken : Option Said → Type 0
Spoken (Some said) = Unit
Spoken None = ⊥

leaves :
    (fits whole : Bool) (kind : Kind) (first second : Option ℕ) (count : ℕ) (put area : List ℕ) →
    cond fits (says_by kind first second (cond whole (Some count) None)) None ≡ None →
    cond fits (kept_with first second (cond whole put area) area) area ≡ area
leaves false whole kind first second count put area e = refl
leaves true whole kind None second count put area e = refl
leaves true whole kind (Some a) None count put area e = refl
leaves true false kind (Some a) (Some b) count put area e = refl
leaves true true kind (Some a) (Some b) count put area e = absurd (subst Spoken e tt)

-- by a line's kind, and by none
left_as : (area : List ℕ) (kind : Option Kind) (fields : List (List ℕ)) → read_as kind area fields ≡ None → kept_as kind area fields ≡ area
left_as area None fields e = refl
left_as area (Some kind) fields e =
    let octets = octets_in (form_of kind) (get_or fields 1 []) (get_or fields 3 []) in
    leaves (fitting kind fields) (readable octets area) kind
    (number_in (form_of kind) 0 (get_or fields 1 []))
    (number_in (form_of kind) 1 (get_or fields 2 []))
    (length (octets_of octets))
    (octets_of octets ++ drop (length (octets_of octets)) area)
    area
    e

-- a line that can't be read leaves the area as it was
pub left_alone : (area line : List ℕ) → read_entry area line ≡ None → area_after area line ≡ area
left_alone area line e = left_as area (kind_in (split tab line)) (split tab line) e
