-- A write of a thread: it takes in what the session has seen, adds its entry, and the session sees what it has seen then.
use Rattle.std.proofs.Common.{◌≡◌, ◌≢◌, ℕ, ◌+◌, ◌<◌, ◌≤◌, List, [], ◌∷◌, ◌++◌, length, map, Some, sym, ap, ◌∙◌, subst, arith}
use Rattle.std.proofs.lemmas.List.{get_or-map, get_or-set_other, length_push}
use native.Mathlib.Decide.{ℕ_discrete}
use Rattle.row_words.specs.declared.patch.Patch.{Patch}
use Rattle.version_cell.specs.declared.rule.Entry.{Entry}
use Rattle.version_cell.specs.Histories.{StartsWith, entry, longer, own}
use Rattle.version_cell.specs.Known.{Known, nothing}
use Rattle.version_cell.specs.Cells.{CellData}
use Rattle.version_cell.specs.Passes.{AddsLater, Joins, row_with, shared_by}
use Rattle.version_cell.specs.Sets.{ChangesAt, JoinEach, pass_at}
use Rattle.version_cell.proofs.Logs.{longer_keeps, longer_left, longer_right, starts_length, whole}
use Rattle.version_cell.proofs.Retries.{made_later}
use Rattle.script_player.specs.declared.hand.Hand.{Hand}
use Rattle.script_player.specs.Player.{HasWritten, KeepAuthors, SeeNoMore}

-- the session's passes before and after, and the thread's, which take in the session's and then add an entry
pub record IsWrite (cell : CellData) (set : ℕ) (patch : Patch) (session new : List Known) (hand after : Hand) : Type 0 where
  pub within : set < length session
  pub count : length hand.passes ≡ length session
  pub count_new : length new ≡ length session
  pub behind : SeeNoMore hand.passes session
  pub joined : List Known
  pub takes_in : JoinEach hand.passes (map shared_by session) joined
  pub adds : AddsLater cell patch (pass_at joined set) (pass_at after.passes set)
  pub others : ChangesAt set joined after.passes
  pub count_after : length after.passes ≡ length session
  pub given : JoinEach session (map shared_by after.passes) new

-- the lengths of lists of passes that were made in turn
shared_at : (passes : List Known) (k : ℕ) → k < length passes → (pass_at (map shared_by passes) k).seen ≡ (pass_at passes k).seen
shared_at passes k lt = ap (λ (p : Known). p.seen) (get_or-map shared_by passes k nothing nothing lt)

-- a list that begins with a shared one, and is the longer of it and a shorter one, is it
same_seen : (one other both : List Entry) → length one ≤ length other → both ≡ longer one other → StartsWith both other → both ≡ other
same_seen one other both le is starts =
    let short : length (longer one other) ≤ length other = longer_keeps (λ (l : List Entry). length l ≤ length other) one other le (omega arith) in
    whole both other starts (subst (λ (l : List Entry). length l ≤ length other) (sym is) short)

module _ (cell : CellData) (set : ℕ) (patch : Patch) (session new : List Known) (hand after : Hand) (w : IsWrite cell set patch session new hand after) where
  taken : (k : ℕ) → k < length session → Joins (pass_at hand.passes k) (pass_at (map shared_by session) k) (pass_at w.joined k)
  taken k lt = w.takes_in k (let n = w.count in omega (arith, lt, n))

  joined_seen : (k : ℕ) → k < length session → (pass_at w.joined k).seen ≡ (pass_at session k).seen
  joined_seen k lt =
      let j = taken k lt in
      let same = shared_at session k lt in
      let le : length (pass_at hand.passes k).seen ≤ length (pass_at (map shared_by session) k).seen
      = subst (λ (l : List Entry). length (pass_at hand.passes k).seen ≤ length l) (sym same) (w.behind k lt) in
      same_seen (pass_at hand.passes k).seen (pass_at (map shared_by session) k).seen (pass_at w.joined k).seen le j.longer_is j.other_too ∙ same

  made_other : (k : ℕ) → k ≢ set → pass_at after.passes k ≡ pass_at w.joined k
  made_other k ne = ap (λ (l : List Known). pass_at l k) w.others ∙ get_or-set_other w.joined set k (pass_at after.passes set) nothing ne

  numbered : (pass_at hand.passes set).author ≡ Some w.adds.adds.by
  numbered = sym (taken set w.within).more.author ∙ sym w.adds.more.author ∙ w.adds.adds.is_by

  given_at : (k : ℕ) → k < length session → (pass_at new k).seen ≡ longer (pass_at session k).seen (pass_at after.passes k).seen
  given_at k lt = (w.given k lt).longer_is ∙ ap (longer (pass_at session k).seen) (shared_at after.passes k (let n = w.count_after in omega (arith, lt, n)))

  joined_shorter : length (pass_at session set).seen < length (pass_at after.passes set).seen
  joined_shorter =
      let a = ap (λ (l : List Entry). length l) (joined_seen set w.within) in
      let b = starts_length w.adds.before.seen (pass_at w.joined set).seen w.adds.more.seen in
      let c = ap (λ (l : List Entry). length l) w.adds.adds.seen in
      let d = length_push w.adds.before.seen (entry w.adds.adds.by (row_with cell patch w.adds.before)) in
      omega (arith, a, b, c, d)

  -- behind the write the session has seen what the thread has
  session_seen : (k : ℕ) → k < length session → (pass_at new k).seen ≡ (pass_at after.passes k).seen
  session_seen k lt = go (ℕ_discrete k set)
    where
      go : Dec (k ≡ set) → (pass_at new k).seen ≡ (pass_at after.passes k).seen
      go (yes e) =
          let shorter : length (pass_at session k).seen < length (pass_at after.passes k).seen
          = subst (λ (j : ℕ). length (pass_at session j).seen < length (pass_at after.passes j).seen) (sym e) joined_shorter in
          given_at k lt ∙ longer_right (pass_at session k).seen (pass_at after.passes k).seen shorter
      go (no ne) =
          let same : (pass_at after.passes k).seen ≡ (pass_at session k).seen = ap (λ (p : Known). p.seen) (made_other k ne) ∙ joined_seen k lt in
          let n = ap (λ (l : List Entry). length l) same in
          given_at k lt ∙ longer_left (pass_at session k).seen (pass_at after.passes k).seen (omega (arith, n)) ∙ sym same

  other_seen : (k : ℕ) → k ≢ set → k < length session → (pass_at new k).seen ≡ (pass_at session k).seen
  other_seen k ne lt = session_seen k lt ∙ ap (λ (p : Known). p.seen) (made_other k ne) ∙ joined_seen k lt

  pub has_written : (version : ℕ) → version ≡ length (pass_at after.passes set).seen → after.versions.items ≡ hand.versions.items ++ (set, version) ∷ []
      → after.looks ≡ hand.looks → HasWritten cell set patch session new hand after
  has_written version is noted looks =
      let before = w.adds.before in
      let by = w.adds.adds.by in
      let mine = entry by (row_with cell patch before) in
      let at = taken set w.within in
      record {
        by = by;
        is_by = numbered;
        before = before.seen;
        more = subst (StartsWith before.seen) (joined_seen set w.within) w.adds.more.seen;
        seen = session_seen set w.within ∙ w.adds.adds.seen;
        others = other_seen;
        made = ap (λ (l : List Entry). length l) (made_later cell patch (pass_at w.joined set) (pass_at after.passes set) by w.adds (at.more.author ∙ numbered))
            ∙ length_push (own by (pass_at w.joined set).seen) mine ∙ ap (λ (l : List Entry). length l + 1) (at.more.own_same by numbered);
        made_others = λ other ne lt is_other. ap (λ (p : Known). own by p.seen) (made_other other ne) ∙ (taken other lt).more.own_same by is_other;
        versions = noted ∙ ap (λ (v : ℕ). hand.versions.items ++ (set, v) ∷ [])
            (is ∙ ap (λ (l : List Entry). length l) w.adds.adds.seen ∙ length_push before.seen mine);
        looks = looks;
      }

  pub keep_authors : KeepAuthors hand.passes after.passes
  keep_authors k lt = go (ℕ_discrete k set)
    where
      there : k < length session
      there = let n = w.count in omega (arith, lt, n)

      go : Dec (k ≡ set) → (pass_at after.passes k).author ≡ (pass_at hand.passes k).author
      go (yes e) = subst (λ (j : ℕ). (pass_at after.passes j).author ≡ (pass_at hand.passes j).author) (sym e)
          (w.adds.adds.author ∙ w.adds.more.author ∙ (taken set w.within).more.author)
      go (no ne) = ap (λ (p : Known). p.author) (made_other k ne) ∙ (taken k there).more.author

  pub still_behind : SeeNoMore after.passes new
  still_behind k lt =
      let there : k < length session = (let n = w.count_new in omega (arith, lt, n)) in
      let same = ap (λ (l : List Entry). length l) (session_seen k there) in
      omega (arith, same)
