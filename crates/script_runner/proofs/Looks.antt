-- What the watches of a thread counted.
use Rattle.std.proofs.Common.{◌≡◌, ℕ, ◌<◌, ◌≤◌, Bool, cond, List, [], ◌∷◌, ◌++◌, length, refl, sym, ap, ◌∙◌, subst, arith, ne_eqb}
use Rattle.std.specs.Prelude.{All}
use Rattle.std.specs.List.{AllZip}
use Rattle.std.proofs.lemmas.List.Elements.{All-cons, All-head, All-nil, All-tail}
use native.Mathlib.Decide.{dec_lt}
use Rattle.version_cell.specs.Cells.{CellData}
use Rattle.app_threads.specs.declared.done.Looked.{Looked}
use Rattle.app_threads.specs.declared.item.Item.{Item}
use Rattle.app_threads.specs.declared.item.Item.TheVariants as items
use Rattle.app_threads.specs.Items.{FitsItem, watches_in}
use Rattle.app_threads.specs.Looks.{IsLooked, NeverFalls, counts_in}

-- ---- each is at a reader that is there

watches-there : (bank targets : List CellData) (list : List Item) → All (FitsItem bank targets) list → All (λ (watch : ℕ × ℕ). watch.0 < length targets) (watches_in list)
watches-there bank targets [] fits = All-nil (λ (watch : ℕ × ℕ). watch.0 < length targets)
watches-there bank targets (items.Write set patch ∷ list) fits = watches-there bank targets list (All-tail (FitsItem bank targets) (items.Write set patch) list fits)
watches-there bank targets (items.Watch reader times ∷ list) fits =
    All-cons (λ (watch : ℕ × ℕ). watch.0 < length targets) (reader, times) (watches_in list)
    (All-head (FitsItem bank targets) (items.Watch reader times) list fits)
    (watches-there bank targets list (All-tail (FitsItem bank targets) (items.Watch reader times) list fits))

looked-there : (n : ℕ) (watches : List (ℕ × ℕ)) (looks : List Looked) → AllZip IsLooked watches looks → All (λ (watch : ℕ × ℕ). watch.0 < n) watches
    → All (λ (looked : Looked). looked.reader < n) looks
looked-there n [] [] zip there = All-nil (λ (looked : Looked). looked.reader < n)
looked-there n [] (looked ∷ looks) zip there = absurd zip
looked-there n (watch ∷ watches) [] zip there = absurd zip
looked-there n (watch ∷ watches) (looked ∷ looks) zip there =
    let same = zip.0.reader in
    let low = All-head (λ (w : ℕ × ℕ). w.0 < n) watch watches there in
    All-cons (λ (l : Looked). l.reader < n) looked looks (omega (arith, same, low))
    (looked-there n watches looks zip.1 (All-tail (λ (w : ℕ × ℕ). w.0 < n) watch watches there))

pub looks-there : (bank targets : List CellData) (list : List Item) (looks : List Looked) → All (FitsItem bank targets) list → AllZip IsLooked (watches_in list) looks
    → All (λ (looked : Looked). looked.reader < length targets) looks
looks-there bank targets list looks fits zip = looked-there (length targets) (watches_in list) looks zip (watches-there bank targets list fits)

-- ---- none at another

pub counts-none : (n reader : ℕ) (looks : List Looked) → n ≤ reader → All (λ (looked : Looked). looked.reader < n) looks → counts_in reader looks ≡ []
counts-none n reader [] high there = refl
counts-none n reader (looked ∷ looks) high there =
    let low = All-head (λ (l : Looked). l.reader < n) looked looks there in
    ap (λ (b : Bool). cond b looked.counts [] ++ counts_in reader looks) (ne_eqb looked.reader reader (λ same. let no : ⊥ = omega (arith, low, high, same) in no))
    ∙ counts-none n reader looks high (All-tail (λ (l : Looked). l.reader < n) looked looks there)

-- what holds of the counts at each reader that is there, and of no counts, holds of those at each reader
pub each-reader : (P : List ℕ → Type 0) (n reader : ℕ) (looks : List Looked) → P [] → (reader < n → P (counts_in reader looks)) → All (λ (looked : Looked). looked.reader < n) looks
    → P (counts_in reader looks)
each-reader P n reader looks none here there = go (dec_lt reader n)
  where
    go : Dec (reader < n) → P (counts_in reader looks)
    go (yes lt) = here lt
    go (no ge) = subst P (sym (counts-none n reader looks (omega (arith, ge)) there)) none

pub none-falls : NeverFalls []
none-falls j k le lt = absurd (omega (arith, lt))
