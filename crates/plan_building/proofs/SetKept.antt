-- A set put in the place of another leaves tables of sets and links that agree so, if its own links do. Assumes nothing.
use mathlib.Core.Path.{◌≡◌, sym, ap, subst, ◌∙◌}
use mathlib.Core.List.{List}
use Prim.Native.Nat.{ℕ, ◌<◌}
use native.Mathlib.Omega.{arith}
use lib.ListN.{length, get_or, set, length-set}
use lib.Seq.{get_or-set_same, get_or-set_other}
use Rattle.plan.specs.declared.data.Link.{Link}
use Rattle.plan.specs.declared.data.LinkSet.{LinkSet}
use Rattle.plan.specs.Data.{absent_set}
use Rattle.plan.proofs.Sound.{first_links, Holds, Linked}
use Rattle.plan.proofs.Split.{alike}

-- one set of the table put in the place of another
module _ (sets : List LinkSet) (links links' : List Link) (number : ℕ) (next : LinkSet) (linked : Linked sets links) (inside : number < 8) where
  pub set_linked : length next.links ≡ 8 → length links' ≡ 32 → Holds links' number (first_links next)
      → ((those : ℕ) → Holds links' those (first_links (get_or sets those absent_set)))
      → Linked (set sets number next) links'
  set_linked places whole own others =
      let there : get_or (set sets number next) number absent_set ≡ next = get_or-set_same sets number next absent_set (omega (arith, linked.eight_sets)) in
      record {
        eight_sets = length-set sets number next ∙ linked.eight_sets;
        all_links = whole;
        eight_places =
            λ those h.
            alike those number
            (λ e. ap (λ (n : ℕ). length (get_or (set sets number next) n absent_set).links) e ∙ ap (λ (s : LinkSet). length s.links) there ∙ places)
            (λ e. ap (λ (s : LinkSet). length s.links) (get_or-set_other sets number those next absent_set e) ∙ linked.eight_places those h);
        holds =
            λ those.
            alike those number
            (λ e. subst (λ (n : ℕ). Holds links' n (first_links (get_or (set sets number next) n absent_set))) (sym e) (subst (λ (s : LinkSet). Holds links' number (first_links s)) (sym there) own))
            (λ e. subst (λ (s : LinkSet). Holds links' those (first_links s)) (sym (get_or-set_other sets number those next absent_set e)) (others those));
      }
