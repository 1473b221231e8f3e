-- Queues that grow: a message that leaves one ring for a carrying link, or for a ring of no link, leaves no other link with fewer
-- messages, and every out link with as many.
-- Assumes nothing.
use mathlib.Core.Path.{◌≡◌, refl, sym, ap, ◌∙◌}
use mathlib.Core.List.{List}
use Prim.Native.Nat.{ℕ, ◌≤◌, ◌<◌}
use native.Mathlib.Nat.{le_refl}
use native.Mathlib.Omega.{arith}
use Rattle.area_links.specs.LinkRecords.{record_at}
use Rattle.queue_rings.specs.Ring.{count_of}
use Rattle.queue_store.specs.Sound.{Sound}
use Rattle.queue_heads.specs.Head.{Queues, moved}
use Rattle.promise_runs.proofs.Counts.{move_sound, move_no_less, move_other}

-- no link but one has fewer messages than before, and every out link but that one has as many
pub record Grows (links : List ℕ) (but : ℕ) (before after : List ℕ) : Type 0 where
  pub no_less : (link : ℕ) → link < 32 → (link ≡ but → ⊥) → count_of before link ≤ count_of after link
  pub outs_same : (link : ℕ) → link < 32 → (link ≡ but → ⊥) → (record_at links link).state ≡ 0
      → count_of after link ≡ count_of before link

-- where a message may go: to a ring that there is, and of an out link's to none
pub record Goes (links : List ℕ) (to : ℕ) : Type 0 where
  pub there : to < 35
  pub not_out : to < 32 → (record_at links to).state ≡ 0 → ⊥

-- the rings of no link are open to all
pub goes_free : (links : List ℕ) (to : ℕ) → 32 ≤ to → to < 35 → Goes links to
goes_free links to low high = record { there = high; not_out = λ within. absurd (omega arith) }

-- a store that stays sound while its queues grow
pub record Kept (links : List ℕ) (but : ℕ) (rows octets : List ℕ) (before after : Queues) : Type 0 where
  pub sound : Sound after.spans after.rings rows octets
  pub grows : Grows links but before.spans after.spans

module _ (links : List ℕ) (but : ℕ) where
  pub grows_none : (spans : List ℕ) → Grows links but spans spans
  grows_none spans = record { no_less = λ link h apart. le_refl (count_of spans link); outs_same = λ link h apart out. refl }

  pub grows_on : (first next last : List ℕ) → Grows links but first next → Grows links but next last → Grows links but first last
  grows_on first next last one other = record {
    no_less = λ link h apart. omega (arith, one.no_less link h apart, other.no_less link h apart);
    outs_same = λ link h apart out. other.outs_same link h apart out ∙ one.outs_same link h apart out;
  }

  module _ (rows octets : List ℕ) where
    pub kept_none : (queues : Queues) → Sound queues.spans queues.rings rows octets → Kept links but rows octets queues queues
    kept_none queues sound = record { sound = sound; grows = grows_none queues.spans }

    pub kept_on : (first next last : Queues) → Kept links but rows octets first next → Kept links but rows octets next last
        → Kept links but rows octets first last
    kept_on first next last one other =
        record { sound = other.sound; grows = grows_on first.spans next.spans last.spans one.grows other.grows }

    -- a move
    pub kept_move : (queues : Queues) → Sound queues.spans queues.rings rows octets → (to : ℕ) → Goes links to
        → Kept links but rows octets queues (moved queues but to)
    kept_move queues sound to goes = record {
      sound = move_sound queues rows octets sound but to goes.there;
      grows =
          record {
            no_less = λ link h apart. move_no_less queues rows octets sound but to goes.there link apart;
            outs_same =
                λ link h apart out.
                move_other queues rows octets sound but to goes.there link apart
                (λ same. goes.not_out (omega arith) (ap (λ (l : ℕ). (record_at links l).state) (sym same) ∙ out));
          };
    }
