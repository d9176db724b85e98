-- The bytes and the text of a response.
use Rattle.std.specs.Prelude.{ℕ, ◌^◌, ◌<◌, cond, List, ◌++◌, length, Some, None, codes, decimal, Option, ◌==◌}
use Rattle.fields.specs.Numbers.{four, le4}
use Rattle.records.specs.declared.response.Response.{Response}

-- the response that 8 bytes say: the gain, then the corner
abbrev pub response_of : List ℕ → Option Response
response_of bs = cond (length bs == 8) (Some (record { gain = four bs 0; corner = four bs 4 })) None

-- the bytes of a response
abbrev pub response_bytes : Response → List ℕ
response_bytes r = le4 r.gain ++ le4 r.corner

-- the text of a response, as `7/9`
abbrev pub response_text : Response → List ℕ
response_text r = decimal r.gain ++ (codes "/" ++ decimal r.corner)

-- the numbers of a response fit their 32 bits
abbrev pub Within : Response → Type 0
Within r = (r.gain < 2 ^ 32) × (r.corner < 2 ^ 32)
