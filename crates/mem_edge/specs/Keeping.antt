-- What the lists of a transit say of the journal that it keeps.
use Rattle.std.specs.Prelude.{◌≡◌, ℕ, List, [], Option, Vec}
use Rattle.std.specs.declared.alloc.Global.{Global}
use Rattle.ua_base.specs.Journal.{Entry}
use Rattle.mem_edge.specs.declared.mark.Mark.{Mark}
use Rattle.mem_edge.specs.declared.mark.Source.{Source}
use Rattle.mem_edge.specs.Contents.{bytes_of, injected_bytes}
use Rattle.mem_edge.specs.Marks.{datagram_at, entries, IsKept, IsKept-prop}

-- the journal: the answers Nothing before the first entry, and the entries, with the bytes of their datagrams
abbrev pub journal_from : List (ℕ × Vec ℕ Global) → List (Vec ℕ Global) → ℕ → List Mark → List Entry
journal_from injected sent first log = entries (datagram_at (injected_bytes injected) (bytes_of sent)) first log

abbrev pub KeepsJournal : List (ℕ × Vec ℕ Global) → List (Vec ℕ Global) → List (Option ℕ) → List Source → ℕ → List Mark → Type 0
KeepsJournal injected sent places received first log = IsKept (injected ≡ []) (injected_bytes injected) (bytes_of sent) places received (journal_from injected sent first log)

pub KeepsJournal-prop : (injected : List (ℕ × Vec ℕ Global)) (sent : List (Vec ℕ Global)) (places : List (Option ℕ)) (received : List Source) (first : ℕ) (log : List Mark) → IsProp (KeepsJournal injected sent places received first log)
KeepsJournal-prop injected sent places received first log = IsKept-prop (injected ≡ []) (injected_bytes injected) (bytes_of sent) places received (journal_from injected sent first log)
