-- *Arrivals* of a reader whose places no token and number names: each datagram has places of its own.
use Rattle.std.specs.Prelude.{◌≡◌, ℕ, List, [], ◌∷◌, false, ◌==◌, slice_index_or}
use Rattle.seq_number.specs.Numbers.{place_from}
use Rattle.pubsub_model.specs.declared.reading.Why.TheVariants.{Timeout}
use Rattle.reader_group.specs.Agreeing.{ChunksNear, NearBy}
use Rattle.reader_group.specs.Arrivals.{Mark, Way, accepted, arrivals_in, cut_on, goes_by_numbers, runs_out, taken_in}
use Rattle.reader_group.specs.Opening.{verdict}
use Rattle.reader_group.specs.Plain.{Event, Got, Expired, Setting, Stopped}
use Rattle.session_laws.specs.Plays.{IsAnswerBy, ItemsAre, Play, its_answers, its_meta, its_setting, its_way}

-- a number stands for the first place from this one on that has its 16 bits
abbrev pub placed_from : Way → ℕ → Way
placed_from way from = record way { place = λ token number. place_from from }

-- The list is *Arrivals*, with the chunks, over what befell the read group, where the numbers of each datagram stand for places from some place on. The places
-- of the way itself aren't read.
abbrev pub ComesPlaced : Setting → Way → List Event → List Mark → Type 0
ComesPlaced setting way [] list = list ≡ []
ComesPlaced setting way (Got moment on datagram ∷ before) list =
    let pairs = accepted setting before in
    (earlier : List Mark) × (from : ℕ) × ComesPlaced setting way before earlier
    × (list ≡ (let answer = verdict setting.group setting.setup pairs datagram in
    taken_in setting (placed_from way from) moment (slice_index_or on way.index false) pairs earlier answer))
ComesPlaced setting way (Expired moment ∷ before) list =
    (earlier : List Mark) × ComesPlaced setting way before earlier × (list ≡ cut_on (runs_out way moment (arrivals_in earlier)) Timeout earlier)
ComesPlaced setting way (Stopped reader why ∷ before) list =
    (earlier : List Mark) × ComesPlaced setting way before earlier × (list ≡ cut_on (reader == way.index) why earlier)

-- The list is what came to the reader of a play, so placed, and each item of it is an answer of the writer, cut to the reader's fields: with its place, or
-- with no numbering without.
pub record ComesAnswered (p : Play) (list : List Mark) : Type 0 where
  pub placed : ComesPlaced (its_setting p) (its_way p) p.events list
  pub items : ItemsAre (IsAnswerBy (its_way p).seat.part.numbering (its_meta p) (its_answers p)) (arrivals_in list)

-- its places are near in each stretch without a cut, and so are those of its chunks
pub record AreAllNear (p : Play) (list : List Mark) : Type 0 where
  pub items : NearBy (goes_by_numbers (its_way p)) (arrivals_in list)
  pub chunks : ChunksNear list
