-- What the readers' answers keep of the bytes that they were read from.
use Rattle.std.specs.Prelude.{◌≡◌, ℕ, ◌*◌, ◌≤◌, List, length, take}
use Rattle.ipx_wire.specs.Header.{IsHeader, header_bytes}
use Rattle.ipx_wire.specs.declared.header.Header.{Header}

-- the bytes without padding, and the header at their front, whose length is their number
pub record IsKept (h : Header) (whole : List ℕ) : Type 0 where
  pub ranges : IsHeader h
  pub front : header_bytes h ≡ take 30 whole
  pub counted : h.length ≡ length whole
  pub enough : 30 ≤ length whole

-- that many items, not fewer and not more than there may be, and the bytes of as many of that size
pub record IsCounted (least greatest size : ℕ) (count : ℕ) (body : List ℕ) : Type 0 where
  pub some : least ≤ count
  pub most : count ≤ greatest
  pub enough : size * count ≤ length body
