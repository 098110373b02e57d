-- The numbers of a tunnel that mean something, each under one name (own; the socket is DOSBox').
use Rattle.std.specs.Prelude.{ℕ}

-- the socket of registrations, of their answers and of pings
abbrev pub tunnel_socket : ℕ
tunnel_socket = 2

-- for how many seconds a place counts as there after it answered its cookie; and after it said something, if it is trusted
abbrev pub answer_lasts : ℕ
answer_lasts = 30

abbrev pub trust_lasts : ℕ
trust_lasts = 180

-- a client is pinged after every so many seconds of silence; the two numbers above are multiples of this one
abbrev pub ping_every : ℕ
ping_every = 5

-- the bytes of an IPv4 address, which are the first of a place
abbrev pub address_size : ℕ
address_size = 4
