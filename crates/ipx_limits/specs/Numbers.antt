-- The numbers of the limits that mean something, each under one name (own; measured with DOSBox, and with Linux' virtual cards).
use Rattle.std.specs.Prelude.{ℕ, ◌*◌}

-- nanoseconds of a second
abbrev pub second : ℕ
second = 1000000000

-- the most packets a second, and the most of a share, that a setting says
abbrev pub most_rate : ℕ
most_rate = 1000000

-- ---- what a client receives

-- shares that it receives a second beyond its rate
abbrev pub shares : ℕ
shares = 2

-- shares for which there is room at once, and packets at least; somebody alone has half of that
abbrev pub shares_at_once : ℕ
shares_at_once = 4

abbrev pub room_packets : ℕ
room_packets = 200

-- and more, for those who say little: shares, and packets at least
abbrev pub shares_kept : ℕ
shares_kept = 1

abbrev pub reserve_packets : ℕ
reserve_packets = 50

-- each queue has one part in so many of the reserve
abbrev pub reserve_parts : ℕ
reserve_parts = 8

-- ---- how long packets are: pieces of the memory that a system keeps for one that isn't read

-- packets of more bytes than these are longer
abbrev pub short : ℕ
short = 110

abbrev pub middle : ℕ
middle = 600

abbrev pub short_pieces : ℕ
short_pieces = 22

abbrev pub middle_pieces : ℕ
middle_pieces = 37

abbrev pub longest_pieces : ℕ
longest_pieces = 89

-- so many of the longest fill the memory that is kept; somebody alone has half of it
abbrev pub longest_at_once : ℕ
longest_at_once = 64

-- a packet goes out in so many frames at most
abbrev pub most_frames : ℕ
most_frames = 4

-- ---- what all clients of an address receive

-- somebody alone may say one part in so many of what they receive in a second at once, and no less than so many packets
abbrev pub household_parts : ℕ
household_parts = 8

abbrev pub household_least : ℕ
household_least = 500

-- of that there is room for so many halves, and one half more is the reserve
abbrev pub household_halves : ℕ
household_halves = 4

-- ---- pings, questions, what routers tell, and answers: a second, and at once

abbrev pub pings_at_once : ℕ
pings_at_once = 2

abbrev pub all_pings_a_second : ℕ
all_pings_a_second = 4

abbrev pub all_pings_at_once : ℕ
all_pings_at_once = 8

abbrev pub questions_at_once : ℕ
questions_at_once = 4

abbrev pub link_questions_a_second : ℕ
link_questions_a_second = 20

abbrev pub link_questions_at_once : ℕ
link_questions_at_once = 80

abbrev pub advertisements_a_second : ℕ
advertisements_a_second = 4

abbrev pub least_advertisements_at_once : ℕ
least_advertisements_at_once = 32

abbrev pub link_advertisements_a_second : ℕ
link_advertisements_a_second = 100

abbrev pub link_advertisements_at_once : ℕ
link_advertisements_at_once = 400

-- of all links together each may tell so many at once in any case: what a neighbour tells once a minute
abbrev pub link_tells_at_once : ℕ
link_tells_at_once = 200

abbrev pub answers_a_second : ℕ
answers_a_second = 2

abbrev pub answers_at_once : ℕ
answers_at_once = 8

-- packets of the router's answers to what a client asks: a second; at once there may be as many as its tables fill
abbrev pub pages_a_second : ℕ
pages_a_second = 20

-- clients of one address that may each ask and be answered
abbrev pub most_of_household : ℕ
most_of_household = 4

-- ---- what the router hears of an address

-- one part in so many of the rate
abbrev pub handed_part : ℕ
handed_part = 2

abbrev pub handed_at_once : ℕ
handed_at_once = 64

abbrev pub answers_handed_at_once : ℕ
answers_handed_at_once = 32

-- the tables of the router: the most routes and services, and how many one packet tells
abbrev pub most_routes : ℕ
most_routes = 2048

abbrev pub most_tabled : ℕ
most_tabled = 1024

-- ---- what packets are

-- the socket of pings and of their answers
abbrev pub ping_socket : ℕ
ping_socket = 2

-- operations: what asks for routes, and for services, all or the nearest
abbrev pub routes_asked : ℕ
routes_asked = 1

abbrev pub services_asked : ℕ
services_asked = 1

abbrev pub nearest_asked : ℕ
nearest_asked = 3

-- ---- a narrow line

-- bytes in front of a packet there: the headers of UDP and IP, and as many as Ethernet has with its checksum; the longest packet, and a short
-- one
abbrev pub line_headers : ℕ
line_headers = 46

abbrev pub line_longest : ℕ
line_longest = 1500

abbrev pub line_short : ℕ
line_short = 154

-- nanoseconds that a byte takes by a line of one kilobit a second; of a line so many tenths are used
abbrev pub byte_by_kilobit : ℕ
byte_by_kilobit = 8000000

abbrev pub tenths : ℕ
tenths = 10

abbrev pub tenths_used : ℕ
tenths_used = 9

abbrev pub millisecond : ℕ
millisecond = 1000000

-- for how long the line may be busy when a copy goes out: one beyond the part of its address; one within that; one within what a speaker may
-- say to the address at once; and one within his part of that, or of one who says little to all together
abbrev pub room_beyond : ℕ
room_beyond = 20 * millisecond

abbrev pub room_of_address : ℕ
room_of_address = 40 * millisecond

abbrev pub room_of_speaker : ℕ
room_of_speaker = 80 * millisecond

abbrev pub room_within : ℕ
room_within = 310 * millisecond

-- how much of its part an address may receive at once; and how much may be used at once of a speaker's part, and of what he says to all
abbrev pub received_at_once : ℕ
received_at_once = 250 * millisecond

abbrev pub at_once : ℕ
at_once = 150 * millisecond

abbrev pub said_at_once : ℕ
said_at_once = 1000 * millisecond

-- there are so many parts at most
abbrev pub most_parts : ℕ
most_parts = 4096

-- of so many parts of the line all but three are the speakers' parts of the addresses' parts; of the others one is what speakers say to all, one
-- for the gateway's own datagrams, and one for those to strangers
abbrev pub own_parts : ℕ
own_parts = 32

abbrev pub pair_parts : ℕ
pair_parts = 29

-- bytes of a datagram of the gateway's own: a header alone
abbrev pub own_datagram : ℕ
own_datagram = 30

-- of what goes to strangers one address gets one part in so many
abbrev pub parts_of_one : ℕ
parts_of_one = 8

-- and how much of each of these at once
abbrev pub own_at_once : ℕ
own_at_once = 1000 * millisecond

-- who speaks has one of so many numbers from 1 on, and keeps it for so many seconds of silence
abbrev pub line_numbers : ℕ
line_numbers = 64

abbrev pub quiet_seconds : ℕ
quiet_seconds = 10
