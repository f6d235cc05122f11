-- What a tap keeps of a link.
use Rattle.std.specs.Prelude.{◌≡◌, ◌^◌, ◌-◌, ◌+◌, min, ℕ, Bool, if◌then◌else◌, List, ◌++◌, length, Option, Some, None, option_map, option_to_list}
use Rattle.ua_base.specs.declared.link.Sent.{Sent as SentEnd}
use Rattle.ua_base.specs.declared.link.Sent.TheVariants as sent
use Rattle.ua_base.specs.Journal.{LinkState, sent_list}
use Rattle.ua_base.specs.Links.{Opening}
use Rattle.ps_config.specs.declared.parts.Config.{Config}
use Rattle.json_tap.specs.Transcoding.{transcoded, line, lines_of, skipped_of}

-- a count that stands still at the end of 64 bits
abbrev pub counted : ℕ → ℕ
counted n = min n (2 ^ 64 - 1)

-- the lines are those of the datagrams that were sent, in order, and the others are counted
pub record IsOf (config : Config) (sent : List (List ℕ)) (lines : List (List ℕ)) (skipped : ℕ) : Type 0 where
  pub lines_are : lines ≡ lines_of config sent
  pub others : skipped ≡ counted (skipped_of config sent)

-- the same of what a link tells that it sent since it was opened
abbrev pub IsOfLink : Config → Option LinkState → List (List ℕ) → ℕ → Type 0
IsOfLink config told lines skipped =
    (state : LinkState) → told ≡ Some state → IsOf config (sent_list state.journal) lines skipped

-- what a link was opened with by way of a tap
abbrev pub opened_if : Bool → Option Opening → Option Opening
opened_if is_open opening = if is_open then opening else None

-- the line that a datagram gives after so many others, where it gives one
abbrev pub line_for : Config → ℕ → List ℕ → Option (List ℕ)
line_for config number datagram = option_map (line config number) (transcoded config datagram)

abbrev pub count_more : Option (List ℕ) → ℕ → ℕ
count_more None skipped = counted (skipped + 1)
count_more (Some line) skipped = skipped

-- one line more, or one datagram more that is skipped
pub record Keeps (given : Option (List ℕ)) (before after : List (List ℕ)) (skipped left : ℕ) : Type 0 where
  pub lines_are : after ≡ before ++ option_to_list given
  pub others : left ≡ count_more given skipped

pub record Stays (before after : List (List ℕ)) (skipped left : ℕ) : Type 0 where
  pub lines_are : after ≡ before
  pub others : left ≡ skipped

-- what is given is kept where a send was done
abbrev pub KeepsIf : SentEnd → Option (List ℕ) → List (List ℕ) → List (List ℕ) → ℕ → ℕ → Type 0
KeepsIf sent.Done given before after skipped left = Keeps given before after skipped left
KeepsIf sent.Failed given before after skipped left = Stays before after skipped left
KeepsIf sent.Memory given before after skipped left = Stays before after skipped left

-- a datagram that is sent gives exactly one line or is skipped; one that isn't gives nothing
abbrev pub KeepsSent : Config → List ℕ → SentEnd → List (List ℕ) → List (List ℕ) → ℕ → ℕ → Type 0
KeepsSent config datagram end before after skipped left =
    KeepsIf end (line_for config (length before) datagram) before after skipped left
