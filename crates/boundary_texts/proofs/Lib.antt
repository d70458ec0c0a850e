-- What the calls' contracts say, from the promises of what they call: of one text (Answered), of two (Mended).
pub mod Answered
pub mod Mended
