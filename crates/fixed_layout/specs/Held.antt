-- What a slot of a datagram may hold.
use Rattle.std.specs.Prelude.{◌≡◌, ℕ, ◌⊎◌, List, ◌++◌, replicate, Contains}

-- one of the frames, that has this slot
pub record IsFrameFor {X : Type 0} (index : X → ℕ) (frames : List X) (place : ℕ) (frame : X) : Type 0 where
  pub listed : Contains frames frame
  pub own : index frame ≡ place

-- one frame's spelling, and zeros behind it; or zeros alone
pub record HoldsFrame {X : Type 0} (index : X → ℕ) (spelling : X → List ℕ) (frames : List X) (place : ℕ) (bytes : List ℕ) : Type 0 where
  pub zeros : ℕ
  pub held : (bytes ≡ replicate zeros 0) ⊎ ((frame : X) × IsFrameFor index frames place frame × (bytes ≡ spelling frame ++ replicate zeros 0))
