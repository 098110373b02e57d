-- Words that are added to a list, one after the other.
use Rattle.std.proofs.Common.{◌≡◌, ℕ, ◌+◌, ◌<◌, ◌≤◌, Bool, true, false, nat_lt, if◌then◌else◌, List, take, drop, refl, sym, ap, ◌∙◌, Option, Some, None, true≢false}
use Rattle.std.specs.Prelude.{slice_get}
use Rattle.std.specs.Option.{is_some}
use Rattle.std.proofs.lemmas.Bool.{lt-ltb}
use Rattle.ipx_settings.specs.Addresses.{range_of}
use Rattle.ipx_settings.specs.Lines.{socket_of}
use Rattle.ipx_settings.specs.Names.{origin_of}
use Rattle.ipx_settings.specs.declared.addresses.HostRange.{HostRange}
use Rattle.ipx_configuration.specs.Extends.{socket_fault, socket_by, socket_then, sockets_from}
use Rattle.ipx_configuration.specs.Lines.{range_then, ranges_from, origin_then, origins_from}
use Rattle.ipx_configuration.specs.Said.{with_range, with_origin, with_socket}
use Rattle.ipx_configuration.specs.declared.fault.Fault.{Fault}
use Rattle.ipx_configuration.specs.declared.fault.Fault.TheVariants as fault
use Rattle.ipx_configuration.specs.declared.said.Origins.{Origins}
use Rattle.ipx_configuration.specs.declared.said.Ranges.{Ranges}
use Rattle.ipx_configuration.specs.declared.said.Sockets.{Sockets}
use Rattle.ipx_configuration.proofs.Unread.{next_read, none_read, all_read}

-- ---- ranges

module _ (r : Ranges) (number : ℕ) (ws : List (List ℕ)) (read : ℕ) where
  pub range_more : (w : List ℕ) (range : HostRange) → slice_get ws number ≡ Some w → number < read → range_of w ≡ Some range → r.count < 16
      → ranges_from r number (drop number (take read ws)) ≡ ranges_from (with_range r range) (number + 1) (drop (number + 1) (take read ws))
  range_more w range there less is room =
      let rest = drop (number + 1) (take read ws) in
      ap (ranges_from r number) (next_read ws number read w there less)
      ∙ ap (λ (o : Option HostRange). range_then r number o (λ next. ranges_from next (number + 1) rest)) is
      ∙ ap (λ (b : Bool). if b then ranges_from (with_range r range) (number + 1) rest else (r, Some (fault.ManyRanges number))) (lt-ltb r.count 16 room)

  pub range_full : (w : List ℕ) (range : HostRange) → slice_get ws number ≡ Some w → number < read → range_of w ≡ Some range → nat_lt r.count 16 ≡ false
      → ranges_from r number (drop number (take read ws)) ≡ (r, Some (fault.ManyRanges number))
  range_full w range there less is full =
      let rest = drop (number + 1) (take read ws) in
      ap (ranges_from r number) (next_read ws number read w there less)
      ∙ ap (λ (o : Option HostRange). range_then r number o (λ next. ranges_from next (number + 1) rest)) is
      ∙ ap (λ (b : Bool). if b then ranges_from (with_range r range) (number + 1) rest else (r, Some (fault.ManyRanges number))) full

  pub range_none : (w : List ℕ) → slice_get ws number ≡ Some w → number < read → range_of w ≡ None
      → ranges_from r number (drop number (take read ws)) ≡ (r, None)
  range_none w there less is =
      let rest = drop (number + 1) (take read ws) in
      ap (ranges_from r number) (next_read ws number read w there less)
      ∙ ap (λ (o : Option HostRange). range_then r number o (λ next. ranges_from next (number + 1) rest)) is

  pub no_range_left : slice_get ws number ≡ None → ranges_from r number (drop number (take read ws)) ≡ (r, None)
  no_range_left none = ap (ranges_from r number) (none_read ws number read none)

  pub all_ranges : read ≤ number → ranges_from r number (drop number (take read ws)) ≡ (r, None)
  all_ranges le = ap (ranges_from r number) (all_read ws number read le)

-- ---- origins

module _ (r : Origins) (number : ℕ) (ws : List (List ℕ)) (read : ℕ) where
  pub origin_more : (w : List ℕ) (text : List ℕ) → slice_get ws number ≡ Some w → number < read → origin_of w ≡ Some text → r.count < 16
      → origins_from r number (drop number (take read ws)) ≡ origins_from (with_origin r text) (number + 1) (drop (number + 1) (take read ws))
  origin_more w text there less is room =
      let rest = drop (number + 1) (take read ws) in
      ap (origins_from r number) (next_read ws number read w there less)
      ∙ ap (λ (o : Option (List ℕ)). origin_then r number o (λ next. origins_from next (number + 1) rest)) is
      ∙ ap (λ (b : Bool). if b then origins_from (with_origin r text) (number + 1) rest else (r, Some (fault.ManyRanges number))) (lt-ltb r.count 16 room)

  pub origin_full : (w : List ℕ) (text : List ℕ) → slice_get ws number ≡ Some w → number < read → origin_of w ≡ Some text → nat_lt r.count 16 ≡ false
      → origins_from r number (drop number (take read ws)) ≡ (r, Some (fault.ManyRanges number))
  origin_full w text there less is full =
      let rest = drop (number + 1) (take read ws) in
      ap (origins_from r number) (next_read ws number read w there less)
      ∙ ap (λ (o : Option (List ℕ)). origin_then r number o (λ next. origins_from next (number + 1) rest)) is
      ∙ ap (λ (b : Bool). if b then origins_from (with_origin r text) (number + 1) rest else (r, Some (fault.ManyRanges number))) full

  pub origin_none : (w : List ℕ) → slice_get ws number ≡ Some w → number < read → origin_of w ≡ None
      → origins_from r number (drop number (take read ws)) ≡ (r, None)
  origin_none w there less is =
      let rest = drop (number + 1) (take read ws) in
      ap (origins_from r number) (next_read ws number read w there less)
      ∙ ap (λ (o : Option (List ℕ)). origin_then r number o (λ next. origins_from next (number + 1) rest)) is

  pub no_origin_left : slice_get ws number ≡ None → origins_from r number (drop number (take read ws)) ≡ (r, None)
  no_origin_left none = ap (origins_from r number) (none_read ws number read none)

-- ---- sockets

pub no_fault : (f : Option Fault) → is_some f ≡ false → f ≡ None
no_fault None right = refl
no_fault (Some f) wrong = absurd (true≢false wrong)

module _ (s : Sockets) (number : ℕ) (ws : List (List ℕ)) (read : ℕ) where
  pub socket_more : (w : List ℕ) (socket : ℕ) → slice_get ws number ≡ Some w → number < read → socket_of w ≡ Some socket → is_some (socket_fault s number socket) ≡ false
      → sockets_from s number (drop number (take read ws)) ≡ sockets_from (with_socket s socket) (number + 1) (drop (number + 1) (take read ws))
  socket_more w socket there less is right =
      let rest = drop (number + 1) (take read ws) in
      ap (sockets_from s number) (next_read ws number read w there less)
      ∙ ap (λ (o : Option ℕ). socket_then s number o (λ next. sockets_from next (number + 1) rest)) is
      ∙ ap (λ (f : Option Fault). socket_by s f (sockets_from (with_socket s socket) (number + 1) rest)) (no_fault (socket_fault s number socket) right)

  some_fault : (f : Option Fault) (more : Sockets × Option Fault) → is_some f ≡ true → socket_by s f more ≡ (s, f)
  some_fault None more bad = absurd (true≢false (sym bad))
  some_fault (Some f) more wrong = refl

  pub socket_wrong : (w : List ℕ) (socket : ℕ) → slice_get ws number ≡ Some w → number < read → socket_of w ≡ Some socket → is_some (socket_fault s number socket) ≡ true
      → sockets_from s number (drop number (take read ws)) ≡ (s, socket_fault s number socket)
  socket_wrong w socket there less is wrong =
      let rest = drop (number + 1) (take read ws) in
      ap (sockets_from s number) (next_read ws number read w there less)
      ∙ ap (λ (o : Option ℕ). socket_then s number o (λ next. sockets_from next (number + 1) rest)) is
      ∙ some_fault (socket_fault s number socket) (sockets_from (with_socket s socket) (number + 1) rest) wrong

  pub socket_none : (w : List ℕ) → slice_get ws number ≡ Some w → number < read → socket_of w ≡ None
      → sockets_from s number (drop number (take read ws)) ≡ (s, None)
  socket_none w there less is =
      let rest = drop (number + 1) (take read ws) in
      ap (sockets_from s number) (next_read ws number read w there less)
      ∙ ap (λ (o : Option ℕ). socket_then s number o (λ next. sockets_from next (number + 1) rest)) is

  pub no_socket_left : slice_get ws number ≡ None → sockets_from s number (drop number (take read ws)) ≡ (s, None)
  no_socket_left none = ap (sockets_from s number) (none_read ws number read none)
