-- Readers and the writers that they are matched to, as the code reads them.
use Rattle.std.proofs.Common.{◌≡◌, sym, ap, ◌∙◌, subst, arith, ℕ, ◌+◌, ◌<◌, List, length, get_or}
use native.Mathlib.Decide.{ℕ_discrete}
use Rattle.ps_config.specs.declared.parts.Config.{Config}
use Rattle.ps_config.specs.declared.parts.GroupPart.{GroupPart}
use Rattle.ps_config.specs.declared.parts.ReadGroupPart.{ReadGroupPart}
use Rattle.ps_config.specs.declared.parts.ReaderPart.{ReaderPart}
use Rattle.ps_config.specs.declared.parts.WriterPart.{WriterPart}
use Rattle.group_laws.specs.Matching.{IsMatched, IsMatchedTo, ReadsWriter, reader_at}
use Rattle.reader_group.specs.Members.{no_seat}
use Rattle.writer_group.specs.Parts.{group_at, no_group}
use Rattle.writer_group.specs.Payloads.{writer_at, no_writer}
use Rattle.script_player.proofs.Finished.{any_default}
use Rattle.cmd_relay.specs.Sources.{IsRead}

-- an element that was read is the one that stands there, whatever stands where there is none
pub read-at : {A : Type 0} (items : List A) (k : ℕ) (item d : A) → k < length items → item ≡ get_or items k item → get_or items k d ≡ item
read-at items k item d lt is = any_default items k d item lt ∙ sym is

pub reads-at : (group : GroupPart) (w : ℕ) (writer : WriterPart) (reader : ReaderPart) → w < length group.writer → writer ≡ get_or group.writer w writer
    → IsRead group.layout writer reader → ReadsWriter group w reader
reads-at group w writer reader lt is read =
    let at : writer_at group w ≡ writer = read-at group.writer w writer no_writer lt is in
    record {
      within = lt;
      id = read.id ∙ sym (ap (λ (x : WriterPart). x.id) at);
      dataset = read.dataset ∙ sym (ap (λ (x : WriterPart). x.dataset) at);
      offset = λ fixed. read.offset fixed ∙ sym (ap (λ (x : WriterPart). x.offset) at);
      size = λ fixed. read.size fixed ∙ sym (ap (λ (x : WriterPart). x.size) at);
    }

pub is-read : (group : GroupPart) (w : ℕ) (writer : WriterPart) (reader : ReaderPart) → w < length group.writer → writer ≡ get_or group.writer w writer
    → ReadsWriter group w reader → IsRead group.layout writer reader
is-read group w writer reader lt is reads =
    let at : writer_at group w ≡ writer = read-at group.writer w writer no_writer lt is in
    record {
      id = reads.id ∙ ap (λ (x : WriterPart). x.id) at;
      dataset = reads.dataset ∙ ap (λ (x : WriterPart). x.dataset) at;
      offset = λ fixed. reads.offset fixed ∙ ap (λ (x : WriterPart). x.offset) at;
      size = λ fixed. reads.size fixed ∙ ap (λ (x : WriterPart). x.size) at;
    }

-- none up to one more
pub none-more : (P : ℕ → Type 0) (n : ℕ) → ((j : ℕ) → j < n → P j → ⊥) → (P n → ⊥) → (j : ℕ) → j < n + 1 → P j → ⊥
none-more P n before here j lt p = go (ℕ_discrete j n)
  where
    go : Dec (j ≡ n) → ⊥
    go (yes same) = here (subst P same p)
    go (no differ) = before j (omega (arith, lt, differ)) p

-- all up to one more
pub all-more : (P : ℕ → Type 0) (n : ℕ) → ((j : ℕ) → j < n → P j) → P n → (j : ℕ) → j < n + 1 → P j
all-more P n before here j lt = go (ℕ_discrete j n)
  where
    go : Dec (j ≡ n) → P j
    go (yes same) = subst P (sym same) here
    go (no differ) = before j (omega (arith, lt, differ))

-- the reader with this index that was read
pub reader-read : (readers : ReadGroupPart) (index : ℕ) (reader : ReaderPart) → index < length readers.reader → reader ≡ get_or readers.reader index reader → reader_at readers index ≡ reader
reader-read readers index reader lt is = read-at readers.reader index reader no_seat.part lt is

pub group-read : (config : Config) (g : ℕ) (group : GroupPart) → g < length config.group → group ≡ get_or config.group g group → group_at config g ≡ group
group-read config g group lt is = read-at config.group g group no_group lt is

pub matched-to : (config : Config) (readers : ReadGroupPart) (index : ℕ) (group : GroupPart) (w : ℕ) (reader : ReaderPart) → index < length readers.reader
    → reader ≡ get_or readers.reader index reader → IsMatched config group readers → ReadsWriter group w reader → IsMatchedTo config readers index group w
matched-to config readers index group w reader lt is matched reads = record {
  groups = matched;
  within = lt;
  reads = subst (ReadsWriter group w) (sym (reader-read readers index reader lt is)) reads;
}

pub reads-it : (config : Config) (readers : ReadGroupPart) (index : ℕ) (group : GroupPart) (w : ℕ) (reader : ReaderPart) → index < length readers.reader
    → reader ≡ get_or readers.reader index reader → IsMatchedTo config readers index group w → ReadsWriter group w reader
reads-it config readers index group w reader lt is matched = subst (ReadsWriter group w) (reader-read readers index reader lt is) matched.reads
