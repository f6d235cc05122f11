-- What lanes leave in the journal of their link, and the counts of it.
use Rattle.std.specs.Prelude.{◌≡◌, ℕ, ◌<◌, ◌==◌, List, length, map, zip, count_by, filter, slice_index, Bool}
use Rattle.ua_base.specs.Journal.{LinkState}
use Rattle.session_model.specs.Answers.{counted}
use Rattle.session_model.specs.Closing.{is_send_failed, is_sent}
use Rattle.session_model.specs.Sends.{Send, is_done_by, send_entries}

-- how many datagrams of each group were sent, how many of all groups, and how many couldn't be
pub record Counts : Type 0 where
  pub sent : List ℕ
  pub all : ℕ
  pub failed : ℕ

-- the datagrams of this group, in order
abbrev pub datagrams_to : ℕ → List Send → List (List ℕ)
datagrams_to g sends = map (λ send. send.datagram) (filter (λ send. send.group == g) sends)

-- the journal has one entry for each of these, in order, and the counts are those of the entries; counts stand at 2^64 - 1
pub record AreSent (groups : ℕ) (sends : List Send) (counts : Counts) (link : LinkState) : Type 0 where
  pub done : List Bool
  pub each : length done ≡ length sends
  pub journal : link.journal ≡ send_entries sends done
  pub sent : (g : ℕ) → g < groups → slice_index counts.sent g ≡ counted (count_by (is_done_by g) (zip sends done))
  pub all : counts.all ≡ counted (count_by is_sent link.journal)
  pub failed : counts.failed ≡ counted (count_by is_send_failed link.journal)
