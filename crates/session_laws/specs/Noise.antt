-- Sessions to whose port comes what was never sent: they meet the headline's premise all the same.
use Rattle.std.specs.Prelude.{ℕ, List, [], ◌∷◌, ◌++◌, true}
use Rattle.ua_base.specs.Journal.{Entry, Got, Empty}
use Rattle.group_laws.specs.Witness.{ones}
use Rattle.session_model.specs.Steps.{Step, Pump}
use Rattle.session_laws.specs.Delivered.{all_got, sent_on}
use Rattle.session_laws.specs.Witness.{small_datagram, small_datagram_with, small_frame, three_plan, tick_on}

-- bytes at random
abbrev pub stray_bytes : List ℕ
stray_bytes = 222 ∷ 173 ∷ 190 ∷ 239 ∷ []

-- a datagram such as the small ones, with a row that was never published: of another publisher, and of another version of UADP
abbrev pub of_another_publisher : List ℕ
of_another_publisher = (113 ∷ 6 ∷ 9 ∷ 1 ∷ 0 ∷ 0 ∷ 0 ∷ 1 ∷ 1 ∷ 0 ∷ []) ++ small_frame 0 8

abbrev pub of_another_version : List ℕ
of_another_version = (114 ∷ 5 ∷ 9 ∷ 1 ∷ 0 ∷ 0 ∷ 0 ∷ 1 ∷ 1 ∷ 0 ∷ []) ++ small_frame 0 8

abbrev pub noise : List Entry
noise = Got stray_bytes ∷ Got of_another_publisher ∷ Got of_another_version ∷ []

-- one tick, whose datagram comes amid all of that
abbrev pub noisy_receives : List Entry
noisy_receives = noise ++ Got (small_datagram 0) ∷ noise ++ Empty ∷ []

abbrev pub noisy_session : List Step
noisy_session = Pump noisy_receives ∷ tick_on []

-- and one of the publisher, the group and the writer of a signed reader, with no signature
abbrev pub signed_noise : List Entry
signed_noise = noise ++ Got (small_datagram_with 0 8) ∷ []

-- the closing tick of the three groups, all of whose datagrams come after that
abbrev pub noisy_three_session : List Step
noisy_three_session = let sent = sent_on three_plan 0 true (ones ∷ []) [] in Pump (signed_noise ++ all_got three_plan sent) ∷ sent
