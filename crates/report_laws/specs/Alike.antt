-- What a report tells of a closed session: all but why a reader waited, where it holds a row. And what a summary tells.
use Rattle.std.specs.Prelude.{◌≡◌, None, option_map}
use Rattle.std.specs.List.{AllZip}
use Rattle.ps_report.specs.declared.closed.Closed.{Closed}
use Rattle.ps_report.specs.declared.closed.HeldEnd.{HeldEnd}
use Rattle.ps_report.specs.declared.closed.ReaderEnd.{ReaderEnd}
use Rattle.ps_report.specs.Reports.{load_versions}

-- one state, and one row with its number and version, or one reason why there is none; and the same breaks
pub record AreReadersAlike (one other : ReaderEnd) : Type 0 where
  pub state : one.state ≡ other.state
  pub held : one.held ≡ other.held
  pub waits : one.held ≡ None → one.why ≡ other.why
  pub breaks : one.breaks ≡ other.breaks
  pub recent : one.recent.items ≡ other.recent.items

-- one history of each data set; of each group and read group, of each writer and its log, of the watches and of the link the same;
-- and readers that are alike
pub record AreToldAlike (one other : Closed) : Type 0 where
  pub histories : one.histories ≡ other.histories
  pub groups : one.groups ≡ other.groups
  pub writers : one.writers ≡ other.writers
  pub read_groups : one.read_groups ≡ other.read_groups
  pub readers : AllZip AreReadersAlike one.readers other.readers
  pub watches : one.watches ≡ other.watches
  pub link : one.link ≡ other.link

-- one row, or one reason why there is none
pub record HoldAlike (one other : ReaderEnd) : Type 0 where
  pub rows : option_map (λ (held : HeldEnd). held.row.words) one.held ≡ option_map (λ (held : HeldEnd). held.row.words) other.held
  pub waits : one.held ≡ None → one.why ≡ other.why

-- first histories that are as long, and readers that hold alike
pub record AreSummedAlike (one other : Closed) : Type 0 where
  pub versions : load_versions one.histories ≡ load_versions other.histories
  pub readers : AllZip HoldAlike one.readers other.readers
