-- What keeps a state regular: queues that grow, and a link's record that is regular with its queue put in its place.
-- Assumes nothing.
use mathlib.Core.Path.{◌≡◌, sym, ap, ◌∙◌, subst}
use mathlib.Core.Bool.{true}
use mathlib.Core.List.{List}
use Prim.Native.Nat.{ℕ, ◌%◌, ◌≤◌, ◌<◌}
use native.Mathlib.Nat.{mod-lt, mod-eq_of_lt}
use native.Mathlib.Omega.{arith}
use lib.Dec.{lit<}
use lib.ListN.{length}
use Rattle.plan.proofs.Split.{split, alike}
use Rattle.area_links.specs.declared.LinkRecord.{LinkRecord}
use Rattle.area_links.specs.LinkRecords.{record_at}
use Rattle.queue_rings.specs.Ring.{count_of}
use Rattle.queue_heads.specs.Head.{Queues, both}
use Rattle.promise_runs.specs.Regular.{regular_link, Regular}
use Rattle.promise_runs.proofs.Records.{kept, Rewritten}
use Rattle.promise_runs.proofs.ByState.{grown}
use Rattle.promise_runs.proofs.Growing.{Grows, Kept, kept_none}

-- the numbers that make a link regular are numbers that its words keep
pub record InRange (known : LinkRecord) : Type 0 where
  pub state_low : known.state < 4
  pub sent_low : known.sent < 128
  pub timer_low : known.timer < 4
  pub code_low : known.code < 64

-- a record that is loaded is such
pub loaded_in_range : (links : List ℕ) (link : ℕ) → InRange (record_at links link)
loaded_in_range links link = record {
  state_low = mod-lt _ (lit< tt);
  sent_low = mod-lt _ (lit< tt);
  timer_low = mod-lt _ (lit< tt);
  code_low = mod-lt _ (lit< tt);
}

-- whether a link is regular hangs on those numbers, and on T3
module _ (known : LinkRecord) (count : ℕ) where
  abbrev with : ℕ → ℕ → ℕ → ℕ → LinkRecord
  with state sent timer code =
      record {
        state = state;
        acknowledged = known.acknowledged % 128;
        received = known.received % 128;
        sent = sent;
        timer = timer;
        t3 = known.t3;
        code = code;
      }

  kept_regular : InRange known → regular_link (kept known) count ≡ regular_link known count
  unfolding regular_link
  kept_regular low =
      ap (λ (n : ℕ). regular_link (with n (known.sent % 128) (known.timer % 4) (known.code % 64)) count)
      (mod-eq_of_lt low.state_low)
      ∙ ap (λ (n : ℕ). regular_link (with known.state n (known.timer % 4) (known.code % 64)) count)
      (mod-eq_of_lt low.sent_low)
      ∙ ap (λ (n : ℕ). regular_link (with known.state known.sent n (known.code % 64)) count)
      (mod-eq_of_lt low.timer_low)
      ∙ ap (λ (n : ℕ). regular_link (with known.state known.sent known.timer n) count)
      (mod-eq_of_lt low.code_low)

module _ (links spans rings rows octets : List ℕ) (regular : Regular links spans rings rows octets) where
  -- a link whose queue grows, or stays if it is out
  still_regular : (but : ℕ) (after : List ℕ) → Grows links but spans after → (link : ℕ) → link < 32 → (link ≡ but → ⊥)
      → regular_link (record_at links link) (count_of after link) ≡ true
  still_regular but after grows link h apart =
      grown (record_at links link) (count_of spans link) (count_of after link) (grows.no_less link h apart)
      (grows.outs_same link h apart)
      (regular.each_link link h)

  -- messages that come from a ring of no link
  pub grew : (but : ℕ) → 32 ≤ but → (rows' octets' : List ℕ) (after : Queues)
      → Kept links but rows' octets' (both spans rings) after
      → Regular links after.spans after.rings rows' octets'
  grew but free rows' octets' after kept = record {
    links_long = regular.links_long;
    each_link = λ link h. still_regular but after.spans kept.grows link h (λ same. omega arith);
    store = kept.sound;
  }

  -- another record in a link's place
  module _ {link : ℕ} {new : LinkRecord} {now : List ℕ} (rewritten : Rewritten links link new now) (low : InRange new) where
    -- while its queue changes too
    pub changed : link < 32 → (rows' octets' : List ℕ) (after : Queues) → Kept links link rows' octets' (both spans rings) after
        → regular_link new (count_of after.spans link) ≡ true
        → Regular now after.spans after.rings rows' octets'
    changed h rows' octets' after kept holds = record {
      links_long = rewritten.long ∙ regular.links_long;
      each_link =
          λ other within.
          alike other link
          (λ same.
          ap (λ (l : ℕ). regular_link (record_at now l) (count_of after.spans l)) same
          ∙ ap (λ (k : LinkRecord). regular_link k (count_of after.spans link)) (rewritten.there regular.links_long h)
          ∙ kept_regular new (count_of after.spans link) low
          ∙ holds)
          (λ apart.
          ap (λ (k : LinkRecord). regular_link k (count_of after.spans other)) (rewritten.others other apart)
          ∙ still_regular link after.spans kept.grows other within apart);
      store = kept.sound;
    }

    -- the record alone
    pub relinked : (link < 32 → regular_link new (count_of spans link) ≡ true) → Regular now spans rings rows octets
    relinked holds =
        split link 32
        (λ h.
        changed h rows octets (both spans rings) (kept_none links link rows octets (both spans rings) regular.store) (holds h))
        (λ past. subst (λ (l : List ℕ). Regular l spans rings rows octets) (sym (rewritten.past past)) regular)

  -- other octets in their place
  pub octets_changed : (octets' : List ℕ) → length octets' ≡ 52416 → Regular links spans rings rows octets'
  octets_changed octets' long =
      let store = regular.store in
      record {
        links_long = regular.links_long;
        each_link = regular.each_link;
        store =
            record {
              spans_long = store.spans_long;
              rings_long = store.rings_long;
              rows_long = store.rows_long;
              octets_long = long;
              all = store.all;
              short = store.short;
              once = store.once;
            };
      }
