-- Meets that are collected, one access after the other.
use Rattle.std.proofs.Common.{◌≡◌, ℕ, ◌+◌, ◌<◌, ◌≤◌, List, [], ◌∷◌, ◌++◌, length, map, take, get_or, refl, ap, sym, ◌∙◌, subst, append_assoc}
use Rattle.std.specs.Prelude.{Option}
use Rattle.std.proofs.lemmas.List.{take_more, take_all, map-append}
use Rattle.sp_core.specs.declared.access.Meet.{Meet}
use Rattle.sp_meets.specs.declared.view.Site.{Site}
use Rattle.sp_meets.specs.Between.{meet_at}
use Rattle.sp_meets.specs.Entries.{HasEntriesWith, HasEntriesAmong}
use Rattle.sp_meets.specs.Meets.{IsLeastOf, entry, AreMeetsWith, AreMeetsAmong}
use Rattle.sp_meets.specs.Plain.{plain_site}
use Rattle.sp_meets.specs.Sites.{PlainSite}

all_of_one : {A : Type 0} (xs : List A) → xs ++ [] ≡ xs
all_of_one [] = refl
all_of_one (x ∷ xs) = ap (λ r. x ∷ r) (all_of_one xs)

alone : (m n : List Meet) → m ≡ [] → m ++ n ≡ n ++ []
alone m n e = ap (λ z. z ++ n) e ∙ sym (all_of_one n)

behind : (m first rest n : List Meet) → m ≡ first ++ rest → m ++ n ≡ first ++ (rest ++ n)
behind m first rest n e = ap (λ z. z ++ n) e ∙ append_assoc first rest n

module _ (chip : ℕ) where
  with_more : (a : PlainSite) (xs : List PlainSite) (b : PlainSite) (m : List Meet) (least : Option ℕ) → AreMeetsWith chip a xs m → IsLeastOf (meet_at chip a b) least → AreMeetsWith chip a (xs ++ b ∷ []) (m ++ entry a b least)
  with_more a [] b m least h i = (least, [], i, alone m (entry a b least) h, refl)
  with_more a (x ∷ xs) b m least h i =
      (h.0, h.1 ++ entry a b least, h.2, behind m (entry a x h.0) h.1 (entry a b least) h.3, with_more a xs b h.1 least h.4 i)

  among_more : (xs ys : List PlainSite) (a : PlainSite) (m n : List Meet) → AreMeetsAmong chip xs ys m → AreMeetsWith chip a ys n → AreMeetsAmong chip (xs ++ a ∷ []) ys (m ++ n)
  among_more [] ys a m n h i = (n, [], i, alone m n h, refl)
  among_more (x ∷ xs) ys a m n h i = (h.0, h.1 ++ n, h.2, behind m h.0 h.1 n h.3, among_more xs ys a h.1 n h.4 i)

sites_more : (sites : List Site) (i : ℕ) (b : Site) → i < length sites → b ≡ get_or sites i b → map plain_site (take (i + 1) sites) ≡ map plain_site (take i sites) ++ plain_site b ∷ []
sites_more sites i b less is =
    ap (map plain_site) (take_more sites i b less ∙ ap (λ z. take i sites ++ z ∷ []) (sym is)) ∙ map-append plain_site (take i sites) (b ∷ [])

pub none_with : (chip : ℕ) (a : PlainSite) (old : List Meet) → HasEntriesWith chip a [] old old
none_with chip a old = record { added = []; is = sym (all_of_one old); right = refl }

pub none_among : (chip : ℕ) (ys : List PlainSite) (old : List Meet) → HasEntriesAmong chip [] ys old old
none_among chip ys old = record { added = []; is = sym (all_of_one old); right = refl }

module _ (chip : ℕ) (sites : List Site) (i : ℕ) (b : Site) (old mid new : List Meet) (less : i < length sites) (is : b ≡ get_or sites i b) where
  pub entry_more : (a : PlainSite) (least : Option ℕ) → HasEntriesWith chip a (map plain_site (take i sites)) old mid → IsLeastOf (meet_at chip a (plain_site b)) least → new ≡ mid ++ entry a (plain_site b) least →
      HasEntriesWith chip a (map plain_site (take (i + 1) sites)) old new
  entry_more a least h l e =
      subst (λ xs. HasEntriesWith chip a xs old new) (sym (sites_more sites i b less is))
      (record {
        added = h.added ++ entry a (plain_site b) least;
        is = e ∙ behind mid old h.added (entry a (plain_site b) least) h.is;
        right = with_more chip a (map plain_site (take i sites)) (plain_site b) h.added least h.right l;
      })

  pub entries_more : (ys : List PlainSite) → HasEntriesAmong chip (map plain_site (take i sites)) ys old mid → HasEntriesWith chip (plain_site b) ys mid new →
      HasEntriesAmong chip (map plain_site (take (i + 1) sites)) ys old new
  entries_more ys h k =
      subst (λ xs. HasEntriesAmong chip xs ys old new) (sym (sites_more sites i b less is))
      (record {
        added = h.added ++ k.added;
        is = k.is ∙ behind mid old h.added k.added h.is;
        right = among_more chip (map plain_site (take i sites)) ys (plain_site b) h.added k.added h.right k.right;
      })

module _ (chip : ℕ) (sites : List Site) (i : ℕ) (old new : List Meet) (past : length sites ≤ i) where
  pub all_with : (a : PlainSite) → HasEntriesWith chip a (map plain_site (take i sites)) old new → HasEntriesWith chip a (map plain_site sites) old new
  all_with a h = subst (λ xs. HasEntriesWith chip a (map plain_site xs) old new) (take_all i sites past) h

  pub all_among : (ys : List PlainSite) → HasEntriesAmong chip (map plain_site (take i sites)) ys old new → HasEntriesAmong chip (map plain_site sites) ys old new
  all_among ys h = subst (λ xs. HasEntriesAmong chip (map plain_site xs) ys old new) (take_all i sites past) h

-- from nothing
pub from_none : (chip : ℕ) (xs ys : List PlainSite) (old new : List Meet) → old ≡ [] → HasEntriesAmong chip xs ys old new → AreMeetsAmong chip xs ys new
from_none chip xs ys old new e h = subst (AreMeetsAmong chip xs ys) (sym (h.is ∙ ap (λ z. z ++ h.added) e)) h.right
