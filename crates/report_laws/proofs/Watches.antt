-- Lines of watches: a reader's name tells which one it is.
use Rattle.std.proofs.Common.{◌≡◌, ℕ, zero, suc, ◌<◌, Bool, true, false, List, [], ◌∷◌, ◌++◌, length, get_or, refl, sym, ap, ◌∙◌, subst, arith, append_assoc, inl, inr}
use Rattle.std.specs.Prelude.{codes, ◌&&◌, nat_le, nat_eq, map, slice_get, IsTrue}
use Rattle.std.specs.Fmt.{decimal}
use Rattle.std.specs.List.{list_all, AllByRecursion}
use Rattle.std.specs.Option.{option_map_or}
use Rattle.std.proofs.lemmas.Bool.{and_parts, cases_lt}
use Rattle.std.proofs.lemmas.List.{append_cancel_left, length-map}
use Rattle.std.proofs.lemmas.List.Elements.{recursion_from_All, All-map}
use Rattle.dataset_meta.specs.Names.{is_name, is_name_byte, begins_with_letter}
use Rattle.ps_config.specs.declared.parts.Config.{Config}
use Rattle.ps_config.specs.declared.parts.ReaderPart.{ReaderPart}
use Rattle.ps_report.specs.declared.closed.WatchEnd.{WatchEnd}
use Rattle.ps_report.specs.Conditions.{readers_of}
use Rattle.ps_report.specs.Lines.{numbers_text, watch_line}
use Rattle.ps_report.specs.Reports.{reader_name, watch_lines}
use Rattle.report_laws.specs.Numbers.{IsNumber, WatchHasNumbers}
use Rattle.report_laws.specs.ReaderNames.{NamesReaders}
use Rattle.report_laws.proofs.Cutting.{Stops, cut, tail_same}
use Rattle.report_laws.proofs.Entries.{number_cut, numbers_cut}

-- ---- names

-- the names of all readers, in order
abbrev reader_names : Config → List (List ℕ)
reader_names config = map (λ part. part.name) (readers_of config.readgroup)

name_bytes : (name : List ℕ) → IsTrue (is_name name) → list_all is_name_byte name ≡ true
name_bytes name is = (and_parts (begins_with_letter name && nat_le (length name) 32) (list_all is_name_byte name) is).1

name_read : (parts : List ReaderPart) (i : ℕ) → option_map_or (λ (part : ReaderPart). part.name) (slice_get parts i) [] ≡ get_or (map (λ part. part.name) parts) i []
name_read [] zero = refl
name_read [] (suc i) = refl
name_read (part ∷ parts) zero = refl
name_read (part ∷ parts) (suc i) = name_read parts i

name_is : (config : Config) (i : ℕ) → reader_name config i ≡ get_or (reader_names config) i []
unfolding reader_name
name_is config i = name_read (readers_of config.readgroup) i

inside : (config : Config) (i : ℕ) → i < length (readers_of config.readgroup) → i < length (reader_names config)
inside config i lt = rw length-map lt

is_spelled : (config : Config) (i : ℕ) → NamesReaders config → i < length (readers_of config.readgroup) → list_all is_name_byte (reader_name config i) ≡ true
is_spelled config i names lt =
    subst (λ name. list_all is_name_byte name ≡ true) (sym (name_is config i))
    (name_bytes (get_or (reader_names config) i [])
    (All-map (λ name. IsTrue (is_name name)) (λ (part : ReaderPart). part.name) (readers_of config.readgroup) names.names i [] (inside config i lt)))

-- one name, one reader
reader_once : (config : Config) (i j : ℕ) → NamesReaders config → i < length (readers_of config.readgroup) → j < length (readers_of config.readgroup)
    → reader_name config i ≡ reader_name config j → i ≡ j
reader_once config i j names lt_i lt_j same =
    let there : get_or (reader_names config) i [] ≡ get_or (reader_names config) j [] = sym (name_is config i) ∙ same ∙ name_is config j in
    elim (cases_lt i j) [
      | inl below ↦ absurd (names.distinct i j [] below (inside config j lt_j) there)
      | inr above ↦ elim (cases_lt j i) [
        | inl under ↦ absurd (names.distinct j i [] under (inside config i lt_i) (sym there))
        | inr over ↦ omega arith
      ]
    ]

-- ---- lines

watch_is : (thread : ℕ) (reader counts s : List ℕ) → watch_line thread reader counts ++ s
    ≡ codes "watch " ++ (decimal thread ++ (32 ∷ (reader ++ (58 ∷ (numbers_text counts ++ (10 ∷ s))))))
unfolding watch_line
watch_is thread reader counts s = six (codes "watch ") (decimal thread) reader (numbers_text counts) s
  where
    six : (a b c d s : List ℕ) → a ++ b ++ (32 ∷ []) ++ c ++ (58 ∷ []) ++ d ++ (10 ∷ []) ++ s ≡ a ++ (b ++ (32 ∷ (c ++ (58 ∷ (d ++ (10 ∷ s))))))
    six a b c d s = simp append_assoc

pub record WatchHas (config : Config) (end : WatchEnd) : Type 0 where
  pub reader : end.reader < length (readers_of config.readgroup)
  pub numbers : WatchHasNumbers end

abbrev watch_text : Config → WatchEnd → List ℕ
watch_text config end = watch_line end.thread (reader_name config end.reader) end.counts

watch_cut : (config : Config) (one other : WatchEnd) (s t : List ℕ) → NamesReaders config → WatchHas config one → WatchHas config other
    → watch_text config one ++ s ≡ watch_text config other ++ t → (one ≡ other) × (s ≡ t)
watch_cut config one other s t names in_one in_other same =
    let name = reader_name config one.reader in
    let another = reader_name config other.reader in
    let left = numbers_text one.counts ++ (10 ∷ s) in
    let right = numbers_text other.counts ++ (10 ∷ t) in
    let thread = number_cut one.thread other.thread (32 ∷ (name ++ (58 ∷ left))) (32 ∷ (another ++ (58 ∷ right))) in_one.numbers.thread in_other.numbers.thread refl refl
    (append_cancel_left (codes "watch ") (decimal one.thread ++ (32 ∷ (name ++ (58 ∷ left)))) (decimal other.thread ++ (32 ∷ (another ++ (58 ∷ right))))
    (sym (watch_is one.thread name one.counts s) ∙ same ∙ watch_is other.thread another other.counts t)) in
    let named = cut is_name_byte name another (58 ∷ left) (58 ∷ right) (is_spelled config one.reader names in_one.reader) (is_spelled config other.reader names in_other.reader) refl refl
    (tail_same 32 32 (name ++ (58 ∷ left)) (another ++ (58 ∷ right)) thread.1) in
    let counted = numbers_cut one.counts other.counts s t (recursion_from_All IsNumber one.counts in_one.numbers.counts) (recursion_from_All IsNumber other.counts in_other.numbers.counts)
    (tail_same 58 58 left right named.1) in (
      ap (λ n. let e : WatchEnd = record { thread = n; reader = one.reader; counts = one.counts } in e) thread.0
          ∙ ap (λ n. let e : WatchEnd = record { thread = other.thread; reader = n; counts = one.counts } in e) (reader_once config one.reader other.reader names in_one.reader in_other.reader named.0)
          ∙ ap (λ l. let e : WatchEnd = record { thread = other.thread; reader = other.reader; counts = l } in e) counted.0,
      counted.1,
    )

-- the first byte isn't that of a watch's line
abbrev is_w : ℕ → Bool
is_w byte = nat_eq byte 119

abbrev pub NoWatch : List ℕ → Type 0
NoWatch s = Stops is_w s

is_watch : (config : Config) (end : WatchEnd) (s : List ℕ) → NoWatch (watch_text config end ++ s) → ⊥
is_watch config end s off = let e : true ≡ false = subst NoWatch (watch_is end.thread (reader_name config end.reader) end.counts s) off in absurd (cc)

pub watches_cut : (config : Config) (xs ys : List WatchEnd) (s t : List ℕ) → NamesReaders config → AllByRecursion (WatchHas config) xs → AllByRecursion (WatchHas config) ys
    → NoWatch s → NoWatch t → watch_lines config xs ++ s ≡ watch_lines config ys ++ t → (xs ≡ ys) × (s ≡ t)
watches_cut config [] [] s t names in_xs in_ys no_s no_t same = (refl, same)
watches_cut config [] (y ∷ ys) s t names in_xs in_ys no_s no_t same =
    absurd (is_watch config y (watch_lines config ys ++ t) (subst NoWatch (same ∙ append_assoc (watch_text config y) (watch_lines config ys) t) no_s))
watches_cut config (x ∷ xs) [] s t names in_xs in_ys no_s no_t same =
    absurd (is_watch config x (watch_lines config xs ++ s) (subst NoWatch (sym same ∙ append_assoc (watch_text config x) (watch_lines config xs) s) no_t))
watches_cut config (x ∷ xs) (y ∷ ys) s t names in_xs in_ys no_s no_t same =
    let left = watch_lines config xs in
    let right = watch_lines config ys in
    let first = watch_cut config x y (left ++ s) (right ++ t) names in_xs.0 in_ys.0
    (sym (append_assoc (watch_text config x) left s) ∙ same ∙ append_assoc (watch_text config y) right t) in
    let rest = watches_cut config xs ys s t names in_xs.1 in_ys.1 no_s no_t first.1 in
    let head : x ≡ y = first.0 in
    let others : xs ≡ ys = rest.0 in
    (cc, rest.1)

pub watches_have : (config : Config) (watches : List WatchEnd) → AllByRecursion (λ end. end.reader < length (readers_of config.readgroup)) watches → AllByRecursion WatchHasNumbers watches
    → AllByRecursion (WatchHas config) watches
watches_have config [] readers numbers = tt
watches_have config (end ∷ watches) readers numbers = (record { reader = readers.0; numbers = numbers.0 }, watches_have config watches readers.1 numbers.1)
