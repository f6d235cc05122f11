-- What the types of a closed session say of its numbers: they have 64 bits at most, and causes are counted at 20 places.
use Rattle.std.specs.Prelude.{◌≡◌, ℕ, ◌^◌, ◌<◌, List, length, IfSome}
use Rattle.std.specs.List.{All}
use Rattle.ps_report.specs.declared.closed.Closed.{Closed}
use Rattle.ps_report.specs.declared.closed.GroupEnd.{GroupEnd}
use Rattle.ps_report.specs.declared.closed.HeldEnd.{HeldEnd}
use Rattle.ps_report.specs.declared.closed.History.{History}
use Rattle.ps_report.specs.declared.closed.LinkEnd.{LinkEnd}
use Rattle.ps_report.specs.declared.closed.ReadGroupEnd.{ReadGroupEnd}
use Rattle.ps_report.specs.declared.closed.ReaderEnd.{ReaderEnd}
use Rattle.ps_report.specs.declared.closed.WatchEnd.{WatchEnd}
use Rattle.ps_report.specs.declared.closed.WriterEnd.{WriterEnd}

abbrev pub IsNumber : ℕ → Type 0
IsNumber n = n < 2 ^ 64

abbrev pub HistoryHasNumbers : History → Type 0
HistoryHasNumbers history = All IsNumber history.threads

abbrev pub GroupHasNumbers : GroupEnd → Type 0
GroupHasNumbers end = IsNumber end.sent

-- place and version of each data frame
abbrev pub LogHasNumbers : List (ℕ × ℕ) → Type 0
LogHasNumbers log = All (λ entry. IsNumber entry.0 × IsNumber entry.1) log

abbrev pub WriterHasNumbers : WriterEnd → Type 0
WriterHasNumbers end = LogHasNumbers end.log

pub record ReadGroupHasNumbers (end : ReadGroupEnd) : Type 0 where
  pub taken : IsNumber end.taken
  pub places : length end.causes ≡ 20
  pub causes : All IsNumber end.causes

pub record HeldHasNumbers (held : HeldEnd) : Type 0 where
  pub number : IfSome held.number IsNumber
  pub version : IfSome held.version IsNumber

pub record ReaderHasNumbers (end : ReaderEnd) : Type 0 where
  pub held : IfSome end.held HeldHasNumbers
  pub breaks : IsNumber end.breaks
  pub recent : All (λ at. IsNumber at.expected × IsNumber at.got) end.recent.items

pub record WatchHasNumbers (end : WatchEnd) : Type 0 where
  pub thread : IsNumber end.thread
  pub counts : All IsNumber end.counts

pub record LinkHasNumbers (link : LinkEnd) : Type 0 where
  pub sent : IsNumber link.sent
  pub failed : IsNumber link.failed
  pub received : IsNumber link.received
  pub broken : IsNumber link.broken
  pub long : IsNumber link.long
  pub limit : IsNumber link.limit

pub record HasNumbers (closed : Closed) : Type 0 where
  pub histories : All HistoryHasNumbers closed.histories
  pub groups : All GroupHasNumbers closed.groups
  pub writers : All WriterHasNumbers closed.writers
  pub read_groups : All ReadGroupHasNumbers closed.read_groups
  pub readers : All ReaderHasNumbers closed.readers
  pub watches : All WatchHasNumbers closed.watches
  pub link : LinkHasNumbers closed.link
