-- The sizes that a stream goes by.
use Rattle.std.specs.Prelude.{ℕ, ◌+◌}

-- "n = 0 to 15": the parameters of a frame, the data of a reply
abbrev pub data_most : ℕ
data_most = 15

-- "up to 270": the data of a long reply
abbrev pub long_most : ℕ
long_most = 270

-- "Its size is 4 + n, at most 19": that of a frame, and of a reply
abbrev pub frame_most : ℕ
frame_most = 19

-- "Waiting bytes (at most 18)"
abbrev pub wait_most : ℕ
wait_most = 18

-- "bytes: input over 4,096" is refused
abbrev pub input_most : ℕ
input_most = 4096

-- "AA 15 B0, the 24 bytes, 85": the data of a measuring frame of six channels
abbrev pub six_values : ℕ
six_values = 24

-- "capture over 4,096 bytes gives 2"
abbrev pub capture_most : ℕ
capture_most = 4096

-- waiting bytes and input
abbrev pub stream_most : ℕ
stream_most = wait_most + input_most

-- waiting bytes and what a candidate that starts in them can reach of the input
abbrev pub join_most : ℕ
join_most = wait_most + frame_most
